mod Joined
mod Written
mod Widths
