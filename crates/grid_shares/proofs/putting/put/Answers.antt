use Rattle.grid_shares.proofs.putting.put.Goals as goal

pub returns : goal.returns
returns g c = record {
  file = c.in_ok-file.file;
  said = _;
  put = c.in_ok-file.ensures.put;
  told = c.in_ok-text.ensures;
  status_is = c.status.ensures;
}
