pub mod AcknowledgedLemmas
pub mod AnswerLemmas
pub mod CutLemmas
pub mod Known
pub mod OpenLemmas
pub mod RunLemmas
pub mod DeskStateLemmas
pub mod CrashLemmas
