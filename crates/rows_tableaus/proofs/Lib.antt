mod SoundTables
mod NumbersBelow
