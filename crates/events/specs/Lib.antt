-- The event list. The paper: Event.
pub mod Event
