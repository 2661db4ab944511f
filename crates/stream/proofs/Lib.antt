mod Numbers
mod Pairs
mod Cuts
mod Exits
mod Rows
mod Refusals
mod Marks
