-- The ninth rule is tested: the file is what the history comes to.
use Rattle.std.proofs.Common.{◌≡◌, ◌==◌, Bool, true, false, refl, ap}
use Rattle.std.specs.Bool.{Decides}
use Rattle.std.specs.Str.{bytes_eq}
use Rattle.std.proofs.lemmas.Bool.Decides.{Decides-eqb}
use Rattle.std.proofs.lemmas.Slice.Eq.{bytes_eq-Decides}
use Rattle.shelf.specs.Decided.{Decided}
use Rattle.shelf.specs.Images.{main_at}
use Rattle.shelf.proofs.Bools.{never}
use Rattle.script_lang.specs.declared.transcripts.file_seen.FileSeen.{FileSeen}
use Rattle.script_lang.specs.declared.transcripts.file_seen.FileSeen.TheVariants.{Absent, Bytes, TooLong}
use Rattle.script_lang.specs.Chronicle.{Basis, Chapter}
use Rattle.script_lang.specs.Good.{TellsFile, file_seen}

abbrev pub same_file : FileSeen → FileSeen → Bool
same_file Absent Absent = true
same_file (Bytes a) (Bytes b) = bytes_eq a b
same_file (TooLong m) (TooLong n) = m == n
same_file a b = false

file_so : (a b : FileSeen) → same_file a b ≡ true → a ≡ b
file_so Absent Absent is = refl
file_so (Bytes a) (Bytes b) is = ap Bytes ((bytes_eq-Decides a b).0 is)
file_so (TooLong m) (TooLong n) is = ap TooLong ((Decides-eqb m n).0 is)
file_so a b is = never is

file_same : (a : FileSeen) → same_file a a ≡ true
file_same Absent = refl
file_same (Bytes a) = (bytes_eq-Decides a a).1 refl
file_same (TooLong m) = (Decides-eqb m m).1 refl

pub file_law : (a b : FileSeen) → Decides (same_file a b) (a ≡ b)
file_law a b = (file_so a b, λ is. rw is (file_same b))

abbrev pub one_file : (a b : FileSeen) → Decided (a ≡ b)
one_file a b = record { test = same_file a b; law = file_law a b }

abbrev pub tells_file : (b : Basis) (c : Chapter) → Decided (TellsFile b c)
tells_file b c = one_file c.told.file (file_seen b.file_limit (main_at b.rules.meanings b.rules.encoded c.store c.told.entries))
