-- Bytes are one script, or have one first faulty line, and never both.
use Rattle.std.proofs.Common.{ℕ, ◌≡◌, ◌+◌, ◌≤◌, ◌∙◌, List, [], ◌∷◌, ◌++◌, length, ap, sym, refl, subst, append_assoc, append-nil, arith}
use Rattle.script_lang.specs.declared.parsing.line.Line.{Line}
use Rattle.script_lang.specs.declared.plan.mode.Mode.{Mode}
use Rattle.script_lang.specs.declared.plan.script.Script.{Script}
use Rattle.script_lang.specs.declared.parsing.script_error.ScriptFault.{ScriptFault}
use Rattle.script_lang.specs.Draft.{draft_of}
use Rattle.script_lang.specs.Faults.{Breaks, IsLeast, fault_number}
use Rattle.script_lang.specs.Lines.{lines_of}
use Rattle.script_lang.specs.Meaning.{AllSay, Faulty, Means, Says, script_of}
use Rattle.script_lang.specs.Spelling.{LineSpells}
use Rattle.script_lang.proofs.KeepsLemmas.{KeepsDraft, empty_keeps, keeps_more}
use Rattle.script_lang.proofs.LeastFault.{one_fault_of_number}
use Rattle.script_lang.proofs.OneMeaning.{one_meaning}
use Rattle.script_lang.proofs.OneRow.{first_same}
use Rattle.script_lang.proofs.ReadSoFar.{length_said}

module _ (mode : Mode) where
  -- lines say one thing each
  one_by_one : (before : List Line) (lines : List (List ℕ)) (a b : List Line) → KeepsDraft (draft_of mode before) → AllSay mode before lines a → AllSay mode before lines b → a ≡ b
  one_by_one before [] [] [] keeps x y = refl
  one_by_one before [] [] (t ∷ b) keeps x y = absurd y
  one_by_one before [] (s ∷ a) b keeps x y = absurd x
  one_by_one before (line ∷ lines) [] b keeps x y = absurd x
  one_by_one before (line ∷ lines) (s ∷ a) [] keeps x y = absurd y
  one_by_one before (line ∷ lines) (s ∷ a) (t ∷ b) keeps x y =
      let same : s ≡ t = one_meaning (draft_of mode before) keeps.names.nodes_once keeps.names.clients_once line s t x.0.spelled y.0.spelled in
      let P : Line → Type 0 = λ said. AllSay mode (before ++ said ∷ []) lines b in
      let rest : a ≡ b = one_by_one (before ++ s ∷ []) lines a b (keeps_more mode before line s keeps x.0) x.1 (subst P (sym same) y.1) in
      cc

  pub one_script : (bytes : List ℕ) (a b : Script) → Means mode bytes a → Means mode bytes b → a ≡ b
  one_script bytes a b x y =
      let same = one_by_one [] (lines_of bytes) x.said y.said (empty_keeps mode) x.each y.each in
      x.made ∙ ap (λ (said : List Line). script_of (draft_of mode said)) same ∙ sym y.made

  -- the line behind lines that said something breaks a rule
  BreaksBehind : List Line → List ℕ → Type 0
  BreaksBehind said line = (fault : ScriptFault) × Breaks (draft_of mode said) (length said + 1) line fault

  sound_here : (before : List Line) (line : List ℕ) (s : Line) → Says (draft_of mode before) (length before + 1) line s → ¬ BreaksBehind (before ++ []) line
  unfolding BreaksBehind
  sound_here before line s says broken =
      let P : List Line → Type 0 = λ all. Breaks (draft_of mode all) (length all + 1) line broken.0 in
      says.keeps_rules broken.0 (subst P (append-nil before) broken.1)

  -- further on
  moved : (before said : List Line) (s : Line) (line : List ℕ) → BreaksBehind (before ++ s ∷ said) line → BreaksBehind ((before ++ s ∷ []) ++ said) line
  moved before said s line broken =
      let P : List Line → Type 0 = λ all. BreaksBehind all line in
      subst P (sym (append_assoc before (s ∷ []) said)) broken

  -- where lines say something, none is faulty
  sound : (before : List Line) (front : List (List ℕ)) (line : List ℕ) (behind : List (List ℕ)) (all said : List Line) → AllSay mode before (front ++ line ∷ behind) all → AllSay mode before front said
      → KeepsDraft (draft_of mode before) → ¬ BreaksBehind (before ++ said) line
  sound before [] line behind [] said x y keeps broken = absurd x
  sound before [] line behind (s ∷ all) [] x y keeps broken = sound_here before line s x.0 broken
  sound before [] line behind (s ∷ all) (t ∷ said) x y keeps broken = absurd y
  sound before (first ∷ front) line behind [] said x y keeps broken = absurd x
  sound before (first ∷ front) line behind (s ∷ all) [] x y keeps broken = absurd y
  sound before (first ∷ front) line behind (s ∷ all) (t ∷ said) x y keeps broken =
      let same : s ≡ t = one_meaning (draft_of mode before) keeps.names.nodes_once keeps.names.clients_once first s t x.0.spelled y.0.spelled in
      let P : Line → Type 0 = λ u. AllSay mode (before ++ u ∷ []) front said in
      let Q : Line → Type 0 = λ u. BreaksBehind ((before ++ u ∷ []) ++ said) line in
      sound (before ++ s ∷ []) front line behind all said x.1 (subst P (sym same) y.1) (keeps_more mode before first s keeps x.0) (subst Q (sym same) (moved before said t line broken))

  -- two first faulty lines are the same
  agree : (before : List Line) (front fore : List (List ℕ)) (line other : List ℕ) (behind rest : List (List ℕ)) (a b : List Line) → front ++ line ∷ behind ≡ fore ++ other ∷ rest
      → AllSay mode before front a → AllSay mode before fore b → KeepsDraft (draft_of mode before) → BreaksBehind (before ++ a) line → BreaksBehind (before ++ b) other → (a ≡ b) × (line ≡ other)
  agree before [] [] line other behind rest [] [] e x y keeps broken also = (refl, (first_same line other behind rest e).0)
  agree before [] [] line other behind rest [] (t ∷ b) e x y keeps broken also = absurd y
  agree before [] [] line other behind rest (s ∷ a) b e x y keeps broken also = absurd x
  agree before [] (g ∷ fore) line other behind rest (s ∷ a) b e x y keeps broken also = absurd x
  agree before [] (g ∷ fore) line other behind rest [] [] e x y keeps broken also = absurd y
  agree before [] (g ∷ fore) line other behind rest [] (t ∷ b) e x y keeps broken also =
      let same = (first_same line g behind (fore ++ other ∷ rest) e).0 in
      let P : List ℕ → Type 0 = λ l. BreaksBehind (before ++ []) l in
      absurd (sound_here before g t y.0 (subst P same broken))
  agree before (f ∷ front) [] line other behind rest a (t ∷ b) e x y keeps broken also = absurd y
  agree before (f ∷ front) [] line other behind rest [] [] e x y keeps broken also = absurd x
  agree before (f ∷ front) [] line other behind rest (s ∷ a) [] e x y keeps broken also =
      let same = (first_same f other (front ++ line ∷ behind) rest e).0 in
      let P : List ℕ → Type 0 = λ l. BreaksBehind (before ++ []) l in
      absurd (sound_here before f s x.0 (subst P (sym same) also))
  agree before (f ∷ front) (g ∷ fore) line other behind rest [] b e x y keeps broken also = absurd x
  agree before (f ∷ front) (g ∷ fore) line other behind rest (s ∷ a) [] e x y keeps broken also = absurd y
  agree before (f ∷ front) (g ∷ fore) line other behind rest (s ∷ a) (t ∷ b) e x y keeps broken also =
      let cut = first_same f g (front ++ line ∷ behind) (fore ++ other ∷ rest) e in
      let L : List ℕ → Type 0 = λ l. LineSpells (draft_of mode before) l s in
      let same : s ≡ t = one_meaning (draft_of mode before) keeps.names.nodes_once keeps.names.clients_once g s t (subst L cut.0 x.0.spelled) y.0.spelled in
      let P : Line → Type 0 = λ u. AllSay mode (before ++ u ∷ []) fore b in
      let Q : Line → Type 0 = λ u. BreaksBehind ((before ++ u ∷ []) ++ b) other in
      let next = agree (before ++ s ∷ []) front fore line other behind rest a b cut.1 x.1 (subst P (sym same) y.1) (keeps_more mode before f s keeps x.0)
      (moved before a s line broken) (subst Q (sym same) (moved before b t other also)) in
      let rest_same : a ≡ b = next.0 in
      (cc, next.1)

  -- what is broken by a faulty line, counted by what was said before it
  broken_behind : {bytes : List ℕ} {number : ℕ} {fault : ScriptFault} (faulty : Faulty mode bytes number fault) → number ≡ length faulty.said + 1
  broken_behind faulty = faulty.counted ∙ ap (λ n. n + 1) (sym (length_said mode [] faulty.front faulty.said faulty.before))

  breaks_behind : {bytes : List ℕ} {number : ℕ} {fault : ScriptFault} (faulty : Faulty mode bytes number fault) → BreaksBehind ([] ++ faulty.said) faulty.line
  unfolding BreaksBehind
  breaks_behind {fault = fault} faulty = let N : ℕ → Type 0 = λ n. Breaks (draft_of mode faulty.said) n faulty.line fault in (fault, subst N (broken_behind faulty) faulty.least.breaks)

  pub no_fault : (bytes : List ℕ) (script : Script) (number : ℕ) (fault : ScriptFault) → Means mode bytes script → ¬ Faulty mode bytes number fault
  no_fault bytes script number fault means faulty =
      let P : List (List ℕ) → Type 0 = λ lines. AllSay mode [] lines means.said in
      sound [] faulty.front faulty.line faulty.behind means.said faulty.said (subst P faulty.lines means.each) faulty.before (empty_keeps mode) (breaks_behind faulty)

  least_once : (broken : ScriptFault → Type 0) (a b : ScriptFault) → IsLeast broken a → IsLeast broken b → a ≡ b
  least_once broken a b x y =
      let low : fault_number a ≤ fault_number b = x.before_others b y.breaks in
      let high : fault_number b ≤ fault_number a = y.before_others a x.breaks in
      one_fault_of_number a b (omega arith)

  pub one_fault : (bytes : List ℕ) (m n : ℕ) (a b : ScriptFault) → Faulty mode bytes m a → Faulty mode bytes n b → (m ≡ n) × (a ≡ b)
  one_fault bytes m n a b x y =
      let same = agree [] x.front y.front x.line y.line x.behind y.behind x.said y.said (sym x.lines ∙ y.lines) x.before y.before (empty_keeps mode) (breaks_behind x) (breaks_behind y) in
      let numbers : m ≡ n = broken_behind x ∙ ap (λ (said : List Line). length said + 1) same.0 ∙ sym (broken_behind y) in
      let S : List Line → Type 0 = λ said. IsLeast (Breaks (draft_of mode said) m x.line) a in
      let L : List ℕ → Type 0 = λ line. IsLeast (Breaks (draft_of mode y.said) m line) a in
      let N : ℕ → Type 0 = λ number. IsLeast (Breaks (draft_of mode y.said) number y.line) a in
      (numbers, least_once (Breaks (draft_of mode y.said) n y.line) a b (subst N numbers (subst L same.1 (subst S same.0 x.least))) y.least)
