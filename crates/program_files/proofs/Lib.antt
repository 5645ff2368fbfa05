-- What a room holds after readings. Assumes nothing.
pub mod Rooms
