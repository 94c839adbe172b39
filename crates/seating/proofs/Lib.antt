mod PlacingTests
mod Placing
mod Lent
