pub mod LevelLemmas
pub mod RoundLemmas
pub mod SpanLemmas
pub mod AllowanceLemmas
pub mod ReserveLaws
