-- Why a word cannot be read.
use Rattle.prefs_text.specs.declared.value_text_error.ValueTextError.{ValueTextError}
use Rattle.prefs_text.specs.declared.value_text_error.ValueTextError.TheVariants as text
use Rattle.script_words.specs.declared.words_error.WordsError.{WordsError}
use Rattle.script_words.specs.declared.words_error.WordsError.TheVariants.{UnknownWord, BadValue, NoMemory}

-- a bad value for this cause, or want of memory
abbrev pub IsBadOrNoMemory : Type 0 → WordsError → Type 0
IsBadOrNoMemory cause UnknownWord = ⊥
IsBadOrNoMemory cause BadValue = cause
IsBadOrNoMemory cause NoMemory = Unit {0}

-- an unknown word for the one cause; a bad value for the other, where there is no unknown word; or want of memory
abbrev pub IsFault : (unknown bad : Type 0) → WordsError → Type 0
IsFault unknown bad UnknownWord = unknown
IsFault unknown bad BadValue = (¬ unknown) × bad
IsFault unknown bad NoMemory = Unit {0}

-- what a text's refusal is to the word that it is
abbrev pub fault_of : ValueTextError → WordsError
fault_of text.UnknownKind = UnknownWord
fault_of text.BadText = BadValue
fault_of text.NoMemory = NoMemory
