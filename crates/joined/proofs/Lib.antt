mod TurnLaws
mod WalkTurns
mod QueueTurns
mod StampTurns
