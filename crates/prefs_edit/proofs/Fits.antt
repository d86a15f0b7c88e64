-- A number within the tested range is one of the machine's.
use Rattle.std.proofs.Common.{◌≡◌, ℤ, pos, negsuc, true, ◌^◌, w32, w64}
use Rattle.std.specs.Int.RustNames.{FitsSigned}
use Rattle.std.proofs.lemmas.Bool.Decides.{Decides-ltb}
use Rattle.prefs_edit.specs.Step.{fits}

pub FitsSigned-int : (z : ℤ) → fits 31 z ≡ true → FitsSigned w32 z
FitsSigned-int (pos n) fitting = record { sfits = (Decides-ltb n (2 ^ 31)).0 fitting }
FitsSigned-int (negsuc n) fitting = record { sfits = (Decides-ltb n (2 ^ 31)).0 fitting }

pub FitsSigned-long : (z : ℤ) → fits 63 z ≡ true → FitsSigned w64 z
FitsSigned-long (pos n) fitting = record { sfits = (Decides-ltb n (2 ^ 63)).0 fitting }
FitsSigned-long (negsuc n) fitting = record { sfits = (Decides-ltb n (2 ^ 63)).0 fitting }
