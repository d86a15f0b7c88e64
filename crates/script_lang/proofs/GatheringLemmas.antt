-- Texts that are gathered and written one after the other.
use Rattle.std.proofs.Common.{◌≡◌, ◌∙◌, ℕ, List, [], ◌++◌, Result, Ok, Err, sym, ap, subst, append_assoc, append-nil}
use Rattle.std.specs.Result.{OnOk}
use Rattle.byte_io.specs.Sink.{GainsPrefix, WritesAll}
use Rattle.byte_io.proofs.WriteLemmas.{prefix_of_first, prefix_of_second}
use Rattle.script_lang.specs.Gathering.{PassesOn, Gathers}

-- a text that was pushed behind what is gathered
pub passes_pushed : (text held gathered pushed : List ℕ) → pushed ≡ gathered ++ text → PassesOn text held gathered held pushed
passes_pushed text held gathered pushed is = record { written = []; parts = sym is; gained = sym (append-nil held) }

pub passes_both : (first second held gathered middle_held middle_gathered new_held new_gathered : List ℕ)
    → PassesOn first held gathered middle_held middle_gathered → PassesOn second middle_held middle_gathered new_held new_gathered
    → PassesOn (first ++ second) held gathered new_held new_gathered
passes_both first second held gathered middle_held middle_gathered new_held new_gathered one two = record {
  written = one.written ++ two.written;
  parts = sym (append_assoc gathered first second) ∙ ap (λ (t : List ℕ). t ++ second) one.parts ∙ append_assoc one.written middle_gathered second
      ∙ ap (λ (t : List ℕ). one.written ++ t) two.parts ∙ sym (append_assoc one.written two.written new_gathered);
  gained = two.gained ∙ ap (λ (t : List ℕ). t ++ two.written) one.gained ∙ append_assoc held one.written two.written;
}

-- a text behind another that was passed on
pub gathers_behind : {T E : Type 0} (first second held gathered middle_held middle_gathered new_held new_gathered : List ℕ) (result : Result T E)
    → PassesOn first held gathered middle_held middle_gathered → Gathers second middle_held middle_gathered result new_held new_gathered
    → Gathers (first ++ second) held gathered result new_held new_gathered
gathers_behind first second held gathered middle_held middle_gathered new_held new_gathered (Ok done) one two =
    passes_both first second held gathered middle_held middle_gathered new_held new_gathered one two
gathers_behind first second held gathered middle_held middle_gathered new_held new_gathered (Err e) one two =
    let whole : gathered ++ (first ++ second) ≡ one.written ++ (middle_gathered ++ second) =
    sym (append_assoc gathered first second) ∙ ap (λ (t : List ℕ). t ++ second) one.parts ∙ append_assoc one.written middle_gathered second in
    subst (λ (t : List ℕ). GainsPrefix t held new_held) (sym whole) (prefix_of_second one.written (middle_gathered ++ second) held middle_held new_held one.gained two)

-- a text that stopped stops what was to follow it
pub stops_inside : (first second held gathered new_held : List ℕ) → GainsPrefix (gathered ++ first) held new_held → GainsPrefix (gathered ++ (first ++ second)) held new_held
stops_inside first second held gathered new_held stop =
    subst (λ (t : List ℕ). GainsPrefix t held new_held) (append_assoc gathered first second) (prefix_of_first (gathered ++ first) second held new_held stop)

-- a push, and then the writing of what is gathered
pub gathers_pushed : {T E : Type 0} (text held gathered pushed new_held new_gathered : List ℕ) (result : Result T E)
    → pushed ≡ gathered ++ text → Gathers [] held pushed result new_held new_gathered → Gathers text held gathered result new_held new_gathered
gathers_pushed text held gathered pushed new_held new_gathered (Ok done) is passes =
    record { written = passes.written; parts = sym is ∙ sym (append-nil pushed) ∙ passes.parts; gained = passes.gained }
gathers_pushed text held gathered pushed new_held new_gathered (Err e) is stop =
    subst (λ (t : List ℕ). GainsPrefix t held new_held) (append-nil pushed ∙ is) stop

-- what is left to gather of a text is written, or not yet
pub gathers_last : {T E : Type 0} (text held gathered middle_held middle_gathered new_held new_gathered : List ℕ) (result : Result T E)
    → PassesOn text held gathered middle_held middle_gathered → Gathers [] middle_held middle_gathered result new_held new_gathered
    → Gathers text held gathered result new_held new_gathered
gathers_last text held gathered middle_held middle_gathered new_held new_gathered result so_far last =
    subst (λ (t : List ℕ). Gathers t held gathered result new_held new_gathered) (append-nil text)
    (gathers_behind text [] held gathered middle_held middle_gathered new_held new_gathered result so_far last)

-- all of a text is written, and nothing is left gathered
pub all_written : {T E : Type 0} (text held gathered middle_held middle_gathered new_held new_gathered : List ℕ) (result : Result T E)
    → gathered ≡ [] → PassesOn text held gathered middle_held middle_gathered → Gathers [] middle_held middle_gathered result new_held new_gathered
    → OnOk result (new_gathered ≡ []) → WritesAll held text result new_held
all_written text held gathered middle_held middle_gathered new_held new_gathered (Ok done) none so_far last empty =
    let whole = passes_both text [] held gathered middle_held middle_gathered new_held new_gathered so_far last in
    let written : text ≡ whole.written =
    sym (append-nil text) ∙ ap (λ (t : List ℕ). t ++ (text ++ [])) (sym none) ∙ whole.parts ∙ ap (λ (t : List ℕ). whole.written ++ t) empty ∙ append-nil whole.written in
    whole.gained ∙ ap (λ (t : List ℕ). held ++ t) (sym written)
all_written text held gathered middle_held middle_gathered new_held new_gathered (Err e) none so_far last empty =
    let stop = gathers_last {T = ℕ} text held gathered middle_held middle_gathered new_held new_gathered (Err e) so_far last in
    subst (λ (t : List ℕ). GainsPrefix (t ++ text) held new_held) none stop
