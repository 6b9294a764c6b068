mod ScrubLemmas
mod StatusLemmas
