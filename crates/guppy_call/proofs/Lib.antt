mod Delivered
mod Discards
mod Due
mod GraphModes
mod OneAnswer
mod ReadSoFar
mod ValidTexts
mod Told
