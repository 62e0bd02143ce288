mod Draws
mod ListTests
mod MadeDay
mod SoundDay
