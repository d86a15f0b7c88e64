-- Where no line is faulty, the bytes are a script.
use Rattle.std.proofs.Common.{ℕ, ◌≡◌, ◌+◌, ◌<◌, ◌∙◌, List, [], ◌∷◌, ◌++◌, Some, length, ap, sym, refl, subst, inl, inr, append_assoc, append-nil, lit<}
use Rattle.std.specs.Prelude.{Contains, slice_get}
use Rattle.std.specs.Option.{IsSomeAnd}
use Rattle.store_traits.specs.declared.step.Step.{Step}
use Rattle.script_words.proofs.OneLine.{words_of}
use Rattle.script_lang.specs.declared.parsing.draft.Draft.{Draft}
use Rattle.script_lang.specs.declared.parsing.line.Line.{Line}
use Rattle.script_lang.specs.declared.parsing.line.Line.TheVariants.{Nothing, File, History, Node, Client, Fault, Fuse, Die, Run}
use Rattle.script_lang.specs.declared.parsing.line_word.LineWord.TheVariants as word
use Rattle.script_lang.specs.declared.plan.mode.Mode.{Mode}
use Rattle.script_lang.specs.declared.plan.run_line.Act.{Act}
use Rattle.script_lang.specs.declared.plan.run_line.Act.TheVariants.{Update, Read, Restart, Go}
use Rattle.script_lang.specs.declared.plan.script.Script.{Script}
use Rattle.script_lang.specs.declared.parsing.script_error.ScriptFault.{ScriptFault}
use Rattle.script_lang.specs.declared.parsing.script_error.ScriptFault.TheVariants.{NotUtf8, LineTooLong, TooManyLines, UnknownWord, BadValue, UnknownName, NameTaken, TooManyNames, WrongPlace, NoMemory}
use Rattle.script_lang.specs.CallWords.{Called, to_update, to_read, to_restart, AreCallWords, CallsFor}
use Rattle.script_lang.specs.Draft.{HasHomes, draft_of}
use Rattle.script_lang.specs.Faults.{Breaks, IsLeast, RowBreaks, fault_number}
use Rattle.script_lang.specs.Lines.{lines_of}
use Rattle.script_lang.specs.Meaning.{AllSay, Faulty, Means, Says, script_of}
use Rattle.script_lang.specs.Rows.{Row, keyword, call, HasRow, IsDieRow, IsRow, IsSkipped}
use Rattle.script_lang.specs.Spelling.{LineSpells, Spells}
use Rattle.script_lang.proofs.CallLemmas.{spells_act}
use Rattle.script_lang.proofs.GrowthLemmas.{draft_has_homes}
use Rattle.script_lang.proofs.LeastFault.{NoneBelow, least_at, none_below_one, passed}
use Rattle.script_lang.proofs.NameLemmas.{beside_name, slice_get-from_Contains}
use Rattle.script_lang.proofs.ReadSoFar.{length_said, say_more}

-- a row whose rules are all kept spells something
module _ (draft : Draft) where
  NothingSpelled : Row → Type 0
  NothingSpelled row = (said : Line) → ¬ Spells draft row said

  unnamed : (names : List (List ℕ)) (name : List ℕ) → ((place : ℕ) → ¬ (slice_get names place ≡ Some name)) → ¬ Contains names name
  unnamed names name nowhere has = let found = slice_get-from_Contains names name has in nowhere found.0 found.1

  module _ (first : List ℕ) (behind : List (List ℕ)) (nothing : NothingSpelled (call first behind)) (kept : (fault : ScriptFault) → ¬ RowBreaks draft (call first behind) fault) where
    no_client_calls : (act : Act) → ¬ CallsFor draft.nodes behind act
    unfolding NothingSpelled
    no_client_calls act calls =
        kept UnknownName (inl (unnamed draft.clients first (λ place at.
        nothing (Run (record { client = record { 0 = place }; act = act }))
        (spells_act draft (call first behind) (record { 0 = place }) act (record { behind = behind; name = first; is = refl; follow = calls; declared = at })))))

    no_words_call : (called : Called) → ¬ AreCallWords behind called
    no_words_call (to_update edit) are = no_client_calls (Update edit) (record { called = to_update edit; words = are; asks = refl })
    no_words_call to_read are = no_client_calls Read (record { called = to_read; words = are; asks = refl })
    no_words_call (to_restart name) are =
        kept UnknownName (inr (record {
          name = name;
          more = [];
          words = are;
          unknown = unnamed draft.nodes name (λ place at.
              no_client_calls (Restart (record { 0 = place })) (record { called = to_restart name; words = are; asks = record { node = record { 0 = place }; is = refl; declared = at } }));
        }))

    call_spells : ⊥
    call_spells = kept BadValue no_words_call

  module _ (homed : HasHomes draft) (behind : List (List ℕ)) (nothing : NothingSpelled (keyword word.Die behind)) (kept : (fault : ScriptFault) → ¬ RowBreaks draft (keyword word.Die behind) fault) where
    no_client_dies : (client : List ℕ) (number : ℕ) (step : Step) → ¬ IsDieRow behind client number step
    unfolding NothingSpelled
    no_client_dies client number step follow =
        let P : List (List ℕ) → Type 0 = λ words. IsSomeAnd (slice_get words 0) (λ (c : List ℕ). ¬ Contains draft.clients c) in
        kept UnknownName (subst P (sym follow.row) (unnamed draft.clients client (λ place at.
        let home = beside_name draft.clients draft.homes client place homed at in
        nothing (Die (record { call = record { node = home.0; client = record { 0 = place }; number = number }; step = step }))
        (record { behind = behind; name = client; is = refl; follow = follow; declared = at; home = home.1 }))))

    die_spells : ⊥
    die_spells = kept BadValue no_client_dies

  row_spells : HasHomes draft → (row : Row) → NothingSpelled row → ¬ ((fault : ScriptFault) → ¬ RowBreaks draft row fault)
  unfolding NothingSpelled
  row_spells homed (keyword word.File behind) nothing kept = kept BadValue (λ main follow. nothing (File main) (record { behind = behind; is = refl; follow = follow }))
  row_spells homed (keyword word.History behind) nothing kept = kept BadValue (λ entries follow. nothing (History entries) (record { behind = behind; is = refl; follow = follow }))
  row_spells homed (keyword word.Node behind) nothing kept = kept BadValue (λ name follow. nothing (Node name) (record { behind = behind; is = refl; follow = follow }))
  row_spells homed (keyword word.Client behind) nothing kept =
      kept BadValue (λ name home follow.
      let P : List (List ℕ) → Type 0 = λ words. IsSomeAnd (slice_get words 2) (λ (h : List ℕ). ¬ Contains draft.nodes h) in
      kept UnknownName (subst P (sym follow.row) (unnamed draft.nodes home (λ place at.
      nothing (Client name (record { 0 = place })) (record { behind = behind; home_name = home; is = refl; follow = follow; declared = at })))))
  row_spells homed (keyword word.Fault behind) nothing kept = kept BadValue (λ planned follow. nothing (Fault planned) (record { behind = behind; is = refl; follow = follow }))
  row_spells homed (keyword word.Fuse behind) nothing kept = kept BadValue (λ left follow. nothing (Fuse left) (record { behind = behind; is = refl; follow = follow }))
  row_spells homed (keyword word.Die behind) nothing kept = die_spells homed behind nothing kept
  row_spells homed (keyword word.Go behind) nothing kept =
      kept BadValue (λ client steps follow.
      let P : List (List ℕ) → Type 0 = λ words. IsSomeAnd (slice_get words 0) (λ (c : List ℕ). ¬ Contains draft.clients c) in
      kept UnknownName (subst P (sym follow.row) (unnamed draft.clients client (λ place at.
      nothing (Run (record { client = record { 0 = place }; act = Go steps })) (record { behind = behind; name = client; is = refl; follow = follow; declared = at })))))
  row_spells homed (keyword _ behind) nothing kept = kept UnknownWord tt
  row_spells homed (call first behind) nothing kept = call_spells first behind nothing kept

-- words are a row
some_row : (words : List (List ℕ)) (others : List (List ℕ)) (last : List ℕ) → words ≡ others ++ last ∷ [] → ¬ ((row : Row) → ¬ IsRow words row)
some_row [] [] last parts none = cc
some_row [] (other ∷ others) last parts none = cc
some_row (first ∷ behind) others last parts none =
    none (call first behind) (refl, λ word is. none (keyword word behind) (ap (λ (w : List ℕ). w ∷ behind) is))

few_faults : (fault : ScriptFault) → fault_number fault < 11
few_faults NotUtf8 = lit< tt
few_faults LineTooLong = lit< tt
few_faults TooManyLines = lit< tt
few_faults UnknownWord = lit< tt
few_faults BadValue = lit< tt
few_faults UnknownName = lit< tt
few_faults NameTaken = lit< tt
few_faults TooManyNames = lit< tt
few_faults WrongPlace = lit< tt
few_faults NoMemory = lit< tt

module _ (draft : Draft) (homed : HasHomes draft) (number : ℕ) (line : List ℕ) where
  line_of_row : (said : Line) (read : ¬ IsSkipped line) (row : Row) → HasRow line row → Spells draft row said → LineSpells draft line said
  line_of_row Nothing read row has spelled = absurd spelled
  line_of_row (File main) read row has spelled = record { read = read; row = row; of_line = has; spells = spelled }
  line_of_row (History entries) read row has spelled = record { read = read; row = row; of_line = has; spells = spelled }
  line_of_row (Node name) read row has spelled = record { read = read; row = row; of_line = has; spells = spelled }
  line_of_row (Client name home) read row has spelled = record { read = read; row = row; of_line = has; spells = spelled }
  line_of_row (Fault planned) read row has spelled = record { read = read; row = row; of_line = has; spells = spelled }
  line_of_row (Fuse left) read row has spelled = record { read = read; row = row; of_line = has; spells = spelled }
  line_of_row (Die death) read row has spelled = record { read = read; row = row; of_line = has; spells = spelled }
  line_of_row (Run run) read row has spelled = record { read = read; row = row; of_line = has; spells = spelled }

  break_of_row : (fault : ScriptFault) (read : ¬ IsSkipped line) (row : Row) → HasRow line row → RowBreaks draft row fault → Breaks draft number line fault
  break_of_row NotUtf8 read row has none = absurd none
  break_of_row LineTooLong read row has none = absurd none
  break_of_row TooManyLines read row has none = absurd none
  break_of_row _ read row has broken = record { read = read; row = row; of_line = has; breaks = broken }

  -- a line that keeps all rules spells something
  line_spells : ((fault : ScriptFault) → ¬ Breaks draft number line fault) → ((said : Line) → ¬ LineSpells draft line said) → ⊥
  unfolding NothingSpelled
  line_spells kept nothing =
      let read : ¬ IsSkipped line = nothing Nothing in
      let words = words_of line in
      let of_line = words.1 in
      some_row words.0 of_line.others of_line.last of_line.parts (λ row is.
      let has : HasRow line row = record { words = words.0; of_line = of_line; is = is } in
      row_spells draft homed row (λ said spelled. nothing said (line_of_row said read row has spelled)) (λ fault broken. kept fault (break_of_row fault read row has broken)))

  pub NotLeast : Type 0
  NotLeast = (fault : ScriptFault) → ¬ IsLeast (Breaks draft number line) fault

  next : (fault : ScriptFault) → NotLeast → NoneBelow (Breaks draft number line) (fault_number fault) → NoneBelow (Breaks draft number line) (fault_number fault + 1)
  unfolding NotLeast
  next fault no_least below = passed (Breaks draft number line) fault below (λ broken. no_least fault (least_at (Breaks draft number line) fault below broken))

  below_all : NotLeast → NoneBelow (Breaks draft number line) 11
  below_all no_least =
      next NoMemory no_least (next WrongPlace no_least (next TooManyNames no_least (next NameTaken no_least (next UnknownName no_least
      (next BadValue no_least (next UnknownWord no_least (next TooManyLines no_least (next LineTooLong no_least (next NotUtf8 no_least (none_below_one (Breaks draft number line)))))))))))

  -- a line says something, or is faulty
  pub line_decided : ((said : Line) → ¬ Says draft number line said) → NotLeast → ⊥
  line_decided nothing no_least =
      let kept : (fault : ScriptFault) → ¬ Breaks draft number line fault = λ fault. (below_all no_least).none fault (few_faults fault) in
      line_spells kept (λ said spelled. nothing said (record { spelled = spelled; keeps_rules = kept }))

module _ (mode : Mode) (bytes : List ℕ) (no_script : (script : Script) → ¬ Means mode bytes script) (no_fault : (number : ℕ) (fault : ScriptFault) → ¬ Faulty mode bytes number fault) where
  walk : (front : List (List ℕ)) (said : List Line) (rest : List (List ℕ)) → lines_of bytes ≡ front ++ rest → AllSay mode [] front said → ⊥
  unfolding NotLeast
  walk front said [] lines each =
      let P : List (List ℕ) → Type 0 = λ all. AllSay mode [] all said in
      no_script (script_of (draft_of mode said)) (record { said = said; each = subst P (sym (lines ∙ append-nil front)) each; made = refl })
  walk front said (line ∷ rest) lines each =
      line_decided (draft_of mode said) (draft_has_homes mode said) (length said + 1) line
      (λ s says. walk (front ++ line ∷ []) (said ++ s ∷ []) rest (lines ∙ sym (append_assoc front (line ∷ []) rest)) (say_more mode [] front said line s each says))
      (λ fault least. no_fault (length said + 1) fault (record {
        front = front;
        line = line;
        behind = rest;
        said = said;
        lines = lines;
        before = each;
        counted = ap (λ n. n + 1) (length_said mode [] front said each);
        least = least;
      }))

pub decided : (mode : Mode) (bytes : List ℕ) → ((script : Script) → ¬ Means mode bytes script) → ¬ ((number : ℕ) (fault : ScriptFault) → ¬ Faulty mode bytes number fault)
decided mode bytes no_script no_fault = walk mode bytes no_script no_fault [] [] (lines_of bytes) refl tt
