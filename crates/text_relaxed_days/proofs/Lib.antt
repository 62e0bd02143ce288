mod FreeTrees
mod FreeSound
mod RelaxedSound
mod RelaxedRosters
mod RelaxedCosts
mod SaidTexts
