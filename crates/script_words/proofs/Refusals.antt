-- Refusals that words pass on.
use Rattle.script_words.specs.Faults.{IsBadOrNoMemory}
use Rattle.script_words.specs.declared.words_error.WordsError.{WordsError}
use Rattle.script_words.specs.declared.words_error.WordsError.TheVariants.{UnknownWord, BadValue, NoMemory}

-- a cause that follows from another
pub passed_on : (cause other : Type 0) (error : WordsError) → (cause → other) → IsBadOrNoMemory cause error → IsBadOrNoMemory other error
passed_on cause other UnknownWord follows is = is
passed_on cause other BadValue follows is = follows is
passed_on cause other NoMemory follows is = is
