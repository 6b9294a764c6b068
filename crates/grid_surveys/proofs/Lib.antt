mod LookLemmas
mod VerifyLemmas
