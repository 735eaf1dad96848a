pub mod KeptLemmas
pub mod NotificationLemmas
pub mod DataChangeLemmas
