-- The fault of a line whose words cannot be read.
use Rattle.script_words.specs.declared.words_error.WordsError.{WordsError}
use Rattle.script_words.specs.declared.words_error.WordsError.TheVariants as words
use Rattle.script_lang.specs.declared.parsing.script_error.ScriptFault.{ScriptFault}
use Rattle.script_lang.specs.declared.parsing.script_error.ScriptFault.TheVariants.{UnknownWord, BadValue, NoMemory}

abbrev pub fault_of_words : WordsError → ScriptFault
fault_of_words words.UnknownWord = UnknownWord
fault_of_words words.BadValue = BadValue
fault_of_words words.NoMemory = NoMemory
