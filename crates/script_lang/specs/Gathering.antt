-- Text on its way to a sink: it is gathered first, and written once there is enough.
use Rattle.std.specs.Prelude.{ℕ, ◌≡◌, ◌++◌, Bool, true, false, List, Result, Ok, Err}
use Rattle.byte_io.specs.Sink.{GainsPrefix}
use Rattle.script_lang.specs.declared.transcripts.write_text_error.WriteTextError.{WriteTextError}
use Rattle.script_lang.specs.declared.transcripts.write_text_error.WriteTextError.TheVariants.{WriteFault}

-- of what was gathered and the text behind it, a prefix went to the sink and the rest is gathered now
pub record PassesOn (text held gathered new_held new_gathered : List ℕ) : Type 0 where
  pub written : List ℕ
  pub parts : gathered ++ text ≡ written ++ new_gathered
  pub gained : new_held ≡ held ++ written

-- the text was passed on; or it stopped, and the sink gained a prefix of what was gathered and the text
abbrev pub Gathers : {T E : Type 0} → List ℕ → List ℕ → List ℕ → Result T E → List ℕ → List ℕ → Type 0
Gathers text held gathered (Ok done) new_held new_gathered = PassesOn text held gathered new_held new_gathered
Gathers text held gathered (Err e) new_held new_gathered = GainsPrefix (gathered ++ text) held new_held

abbrev pub is_write_fault : {T : Type 0} → Result T WriteTextError → Bool
is_write_fault (Err WriteFault) = true
is_write_fault _ = false
