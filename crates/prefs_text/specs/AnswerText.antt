-- The one text of a call's answer.
use Rattle.std.specs.Prelude.{ℕ, List, ◌++◌, codes, decimal, Option, None, Some, IfSome}
use Rattle.prefs_model.specs.declared.pref_pair.PrefPair.{PrefPair}
use Rattle.store_traits.specs.declared.ids.CallId.{CallId}
use Rattle.prefs_text.specs.declared.names.Names.{Names}
use Rattle.prefs_text.specs.declared.seen.AnswerSeen.{AnswerSeen}
use Rattle.prefs_text.specs.declared.seen.AnswerSeen.TheVariants.{Updated, Read, Flow, Unchanged, Refused, Corrupt, FileTooLong, ValueTooLong, HistoryFull, StorageFault, NotDurable, LegacyFault, Died, Posted, Full, Restarted, NotDead, Cut}
use Rattle.prefs_text.specs.declared.seen.AnswerLineSeen.{AnswerLineSeen}
use Rattle.prefs_text.specs.Callers.{HasCaller, call_text}
use Rattle.prefs_text.specs.MapText.{map_text}

abbrev pub numbered : List ℕ → ℕ → List ℕ
numbered word number = word ++ codes " " ++ decimal number

-- a value that is given, with its edition before it
abbrev pub given_text : List ℕ → ℕ → List PrefPair → List ℕ
given_text word edition map = numbered word edition ++ codes " " ++ map_text map

-- the answer alone
unfoldable pub words_of : AnswerSeen → List ℕ
words_of (Updated edition) = numbered (codes "updated") edition
words_of (Read edition map) = given_text (codes "read") edition map
words_of (Flow edition map) = given_text (codes "flow") edition map
words_of (Unchanged edition) = numbered (codes "unchanged") edition
words_of (Refused code edition) = numbered (numbered (codes "refused") code) edition
words_of Corrupt = codes "corrupt"
words_of (FileTooLong len) = numbered (codes "filetoolong") len
words_of (ValueTooLong len) = numbered (codes "valuetoolong") len
words_of (HistoryFull entries weight) = numbered (numbered (codes "historyfull") entries) weight
words_of (StorageFault at) = numbered (codes "storagefault") at
words_of (NotDurable at) = numbered (codes "notdurable") at
words_of (LegacyFault at) = numbered (codes "legacyfault") at
words_of (Died at) = numbered (codes "died") at
words_of Posted = codes "posted"
words_of Full = codes "full"
words_of (Restarted at) = numbered (codes "restarted") at
words_of NotDead = codes "notdead"
words_of Cut = codes "cut"

-- the call, and for an actor's call the one that posted its edit
abbrev pub asker_text : Names → CallId → Option CallId → List ℕ
asker_text names call None = call_text names call
asker_text names call (Some poster) = call_text names call ++ codes " for " ++ call_text names poster

unfoldable pub answer_text : Names → AnswerLineSeen → List ℕ
answer_text names line = asker_text names line.call line.poster ++ codes " " ++ words_of line.answer

-- whoever the text of the answer names has a name
pub record AnswerHasNames (names : Names) (line : AnswerLineSeen) : Type 0 where
  pub caller : HasCaller names line.call.client
  pub poster : IfSome line.poster (λ call. HasCaller names call.client)
