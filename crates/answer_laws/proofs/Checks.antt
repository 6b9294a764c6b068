pub mod VerdictLemmas
pub mod ReportLemmas
