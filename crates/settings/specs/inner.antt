-- The tests in their order.
pub mod Tests
