-- What a line asks for, by the words that are given in it, and by the words that it was made of.
use Rattle.std.proofs.Common.{◌≡◌, ◌∙◌, ℕ, List, [], ◌∷◌, ◌++◌, Option, Some, None, IfSome, IfNone, codes, get_or, inl, inr, refl, ap, sym, subst, arith}
use Rattle.std.proofs.lemmas.List.Elements.{All-nil}
use Rattle.command_words.specs.Command.{Asks, AsksNothing, Follow, IsRow, name_of}
use Rattle.command_words.specs.Line.{LineAsks, MayFollow, StandsAlone}
use Rattle.command_words.specs.Words.{Given, IsNoOption, IsParted}
use Rattle.command_words.specs.declared.command.Command.{Command}
use Rattle.command_words.specs.declared.command.Command.TheVariants.{Set, Get, Remove, Show, Replay}
use Rattle.command_words.proofs.DashLemmas.{given_one, parted_nothing}

pub line_asks_some : (name : List ℕ) (given line : List (List ℕ)) → line ≡ name ∷ codes "--" ∷ given → (found : Option Command)
    → IfSome found (λ command. (name ≡ name_of command) × IsRow given command) → IfSome found (LineAsks line)
line_asks_some name given line words None h = h
line_asks_some name given line words (Some command) h =
    record { given = given; words = words ∙ ap (λ (n : List ℕ). n ∷ codes "--" ∷ given) h.0; row = h.1 }

pub line_asks_none : (name : List ℕ) (given line : List (List ℕ)) → line ≡ name ∷ codes "--" ∷ given → (found : Option Command)
    → IfNone found ((command : Command) → name ≡ name_of command → ¬ IsRow given command) → IfNone found ((command : Command) → ¬ LineAsks line command)
line_asks_none name given line words (Some command) h = h
line_asks_none name given line words None h = λ command asks.
    let same : name ∷ codes "--" ∷ given ≡ name_of command ∷ codes "--" ∷ asks.given = sym words ∙ asks.words in
    let name_same : name ≡ name_of command = cc in
    let given_same : asks.given ≡ given = cc in
    h command name_same (subst (λ (l : List (List ℕ)). IsRow l command) given_same asks.row)

-- a line asks what the words ask that it was made of
pub asks_of_line : (name : List ℕ) (behind before after : List (List ℕ)) (command : Command) → MayFollow name behind → IsParted behind before after
    → LineAsks (name ∷ codes "--" ∷ (before ++ after)) command → Asks (name ∷ behind) command
asks_of_line name behind before after command may parted asks =
    let name_same : name ≡ name_of command = cc (asks.words) in
    let given_same : asks.given ≡ before ++ after = cc (asks.words) in
    record { behind = behind; name = ap (λ (n : List ℕ). n ∷ behind) name_same; follow = go command name_same (subst (λ (l : List (List ℕ)). IsRow l command) given_same asks.row) }
  where
    given : Given behind (before ++ after)
    given = record { before = before; after = after; parted = parted; whole = refl }

    alone : MayFollow name behind → StandsAlone name → behind ≡ []
    alone (inr (e, none)) is = none
    alone (inl (inl e)) (inl show) = let bad : codes "set" ≡ codes "show" = sym e ∙ show in cc
    alone (inl (inr (inl e))) (inl show) = let bad : codes "get" ≡ codes "show" = sym e ∙ show in cc
    alone (inl (inr (inr e))) (inl show) = let bad : codes "remove" ≡ codes "show" = sym e ∙ show in cc
    alone (inl (inl e)) (inr replay) = let bad : codes "set" ≡ codes "replay" = sym e ∙ replay in cc
    alone (inl (inr (inl e))) (inr replay) = let bad : codes "get" ≡ codes "replay" = sym e ∙ replay in cc
    alone (inl (inr (inr e))) (inr replay) =
        let differ = ap (λ name. get_or name 2 0) (sym e ∙ replay) in
        absurd (omega arith)

    go : (command : Command) → name ≡ name_of command → IsRow (before ++ after) command → Follow behind command
    go (Set key value) is row = (before ++ after, given, row)
    go (Get key) is row = (before ++ after, given, row)
    go (Remove key) is row = (before ++ after, given, row)
    go Show is row = alone may (inl is)
    go Replay is row = alone may (inr is)

-- and the words ask what their line asks
pub line_of_asks : (name : List ℕ) (behind before after : List (List ℕ)) (command : Command) → IsParted behind before after
    → Asks (name ∷ behind) command → LineAsks (name ∷ codes "--" ∷ (before ++ after)) command
line_of_asks name behind before after command parted asks =
    let name_same : name ≡ name_of command = cc (asks.name) in
    let behind_same : asks.behind ≡ behind = cc (asks.name) in
    record {
      given = before ++ after;
      words = ap (λ (n : List ℕ). n ∷ codes "--" ∷ (before ++ after)) name_same;
      row = go command (subst (λ (l : List (List ℕ)). Follow l command) behind_same asks.follow);
    }
  where
    same : (given : List (List ℕ)) → Given behind given → given ≡ before ++ after
    same given g = g.whole ∙ given_one behind g.before g.after before after g.parted parted

    go : (command : Command) → Follow behind command → IsRow (before ++ after) command
    go (Set key value) f = subst (λ (l : List (List ℕ)). IsRow l (Set key value)) (same f.0 f.1) f.2
    go (Get key) f = subst (λ (l : List (List ℕ)). IsRow l (Get key)) (same f.0 f.1) f.2
    go (Remove key) f = subst (λ (l : List (List ℕ)). IsRow l (Remove key)) (same f.0 f.1) f.2
    go Show f = parted_nothing before after (subst (λ (l : List (List ℕ)). IsParted l before after) f parted)
    go Replay f = parted_nothing before after (subst (λ (l : List (List ℕ)). IsParted l before after) f parted)

-- the words behind a command's name can be parted
pub follow_parted : (command : Command) (behind : List (List ℕ)) → Follow behind command → (before : List (List ℕ)) × (after : List (List ℕ)) × IsParted behind before after
follow_parted (Set key value) behind f = (f.1.before, f.1.after, f.1.parted)
follow_parted (Get key) behind f = (f.1.before, f.1.after, f.1.parted)
follow_parted (Remove key) behind f = (f.1.before, f.1.after, f.1.parted)
follow_parted Show behind f = ([], [], record { no_options = All-nil IsNoOption; parts = inr (f, refl) })
follow_parted Replay behind f = ([], [], record { no_options = All-nil IsNoOption; parts = inr (f, refl) })

-- and may stand there
pub follow_may : (command : Command) (behind : List (List ℕ)) → Follow behind command → MayFollow (name_of command) behind
follow_may (Set key value) behind f = inl (inl refl)
follow_may (Get key) behind f = inl (inr (inl refl))
follow_may (Remove key) behind f = inl (inr (inr refl))
follow_may Show behind f = inr (inl refl, f)
follow_may Replay behind f = inr (inr refl, f)

-- ---- what the words ask, by their first word and those behind it

pub none_by_name : (words behind : List (List ℕ)) (name : List ℕ) → words ≡ name ∷ behind → (MayFollow name behind → ⊥) → AsksNothing words
none_by_name words behind name parts never command asks =
    let same : name ∷ behind ≡ name_of command ∷ asks.behind = sym parts ∙ asks.name in
    let name_same : name_of command ≡ name = cc in
    let behind_same : asks.behind ≡ behind = cc in
    let may = follow_may command asks.behind asks.follow in
    never (subst (λ (l : List (List ℕ)). MayFollow name l) behind_same (subst (λ (n : List ℕ). MayFollow n asks.behind) name_same may))

pub none_by_parts : (words behind : List (List ℕ)) (name : List ℕ) → words ≡ name ∷ behind → ((before after : List (List ℕ)) → ¬ IsParted behind before after)
    → AsksNothing words
none_by_parts words behind name parts never command asks =
    let same : name ∷ behind ≡ name_of command ∷ asks.behind = sym parts ∙ asks.name in
    let behind_same : asks.behind ≡ behind = cc in
    let parted = follow_parted command asks.behind asks.follow in
    never parted.0 parted.1 (subst (λ (l : List (List ℕ)). IsParted l parted.0 parted.1) behind_same parted.2)

pub some_by_line : (words behind before after line : List (List ℕ)) (name : List ℕ) → words ≡ name ∷ behind → line ≡ name ∷ codes "--" ∷ (before ++ after)
    → MayFollow name behind → IsParted behind before after → (found : Option Command) → IfSome found (LineAsks line) → IfSome found (Asks words)
some_by_line words behind before after line name parts is may parted None h = h
some_by_line words behind before after line name parts is may parted (Some command) h =
    subst (λ (l : List (List ℕ)). Asks l command) (sym parts)
    (asks_of_line name behind before after command may parted (subst (λ (l : List (List ℕ)). LineAsks l command) is h))

pub none_by_line : (words behind before after line : List (List ℕ)) (name : List ℕ) → words ≡ name ∷ behind → line ≡ name ∷ codes "--" ∷ (before ++ after)
    → IsParted behind before after → (found : Option Command) → IfNone found ((command : Command) → ¬ LineAsks line command) → IfNone found (AsksNothing words)
none_by_line words behind before after line name parts is parted (Some command) h = h
none_by_line words behind before after line name parts is parted None h = λ command asks.
    h command (subst (λ (l : List (List ℕ)). LineAsks l command) (sym is)
    (line_of_asks name behind before after command parted (subst (λ (l : List (List ℕ)). Asks l command) parts asks)))
