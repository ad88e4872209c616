mod Fronts
mod OneReading
mod Pushing
mod Readings
