-- What holds of results.
pub use Rattle.lemmas.proofs.Results.{on_ok_then as on_ok, if_ok_then}
