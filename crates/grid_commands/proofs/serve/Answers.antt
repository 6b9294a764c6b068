use Rattle.grid_commands.proofs.ServeLemmas.{other_ends, serve_run}
use Rattle.grid_commands.proofs.serve.Goals as goal

pub returns-in-Serve : goal.returns-in-Serve
returns-in-Serve g c = serve_run _ _ c.args.request.now c.serve_folder.result _ _ c.in-Serve.words c.in-Serve.is c.serve_folder.ensures

pub perform-requires : goal.perform-requires
perform-requires g c = other_ends c.args.request.now c.in_default.not-Serve
