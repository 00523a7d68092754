mod Slots
mod Judged
mod Text
