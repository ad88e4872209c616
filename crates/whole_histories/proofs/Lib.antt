mod Agreeing
mod OneByOne
mod Reading
mod Splitting
