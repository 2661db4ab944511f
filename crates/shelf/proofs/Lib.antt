mod Slots
mod Queues
