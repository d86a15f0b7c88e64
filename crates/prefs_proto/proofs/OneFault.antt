-- A message that is read has no fault, and another has one first fault.
use Rattle.std.proofs.Common.{◌≡◌, ℕ, ◌+◌, ◌<◌, ◌⊎◌, inl, inr, List, [], ◌∷◌, ◌++◌, length, Option, None, Some, refl, sym, ap, subst, ◌∙◌, append_assoc, arith}
use Rattle.std.proofs.lemmas.List.{length-append, append_cancel_right}
use Rattle.wire_codec.specs.declared.wire_error.WireError.{WireError}
use Rattle.wire_codec.specs.Fields.{FieldSeen, IsField, Fields, none, more}
use Rattle.wire_codec.specs.Faults.{FieldFault}
use Rattle.wire_codec.proofs.Unique.{field_once, field_some, field_not_fault, fault_once, fault_some}
use Rattle.prefs_proto.specs.Message.{Gathers, Message, MessageFault, FaultInside, Nested, FaultIn}

fields_none : {at : ℕ} {bytes : List ℕ} → Fields at bytes [] → bytes ≡ []
fields_none none = refl

module _ (IsFaulty : FieldSeen → WireError → Type 0) where
  -- the bytes begin with no field, or with one that has a fault inside
  abbrev Stops : ℕ → List ℕ → WireError → Type 0
  Stops at bytes e = FieldFault at bytes e ⊎ FaultInside IsFaulty at bytes e

  stops_some : (at : ℕ) (bytes : List ℕ) (e : WireError) → Stops at bytes e → 0 < length bytes
  stops_some at bytes e (inl fault) = fault_some fault
  stops_some at bytes e (inr inside) = omega (arith, field_some inside.is_field, ap length inside.parts, length-append inside.text inside.behind)

  stops_start : (at : ℕ) (bytes : List ℕ) (e : WireError) → Stops (at + 0) bytes e → Stops at bytes e
  stops_start at bytes e stops = let start : at + 0 ≡ at = omega arith in subst (λ (k : ℕ). Stops k bytes e) start stops

  -- the same behind the first field
  stops_behind : (at : ℕ) (front others before bytes : List ℕ) (e : WireError) → before ≡ front ++ others → Stops (at + length before) bytes e → Stops (at + length front + length others) bytes e
  stops_behind at front others before bytes e parts stops =
      let place : at + length before ≡ at + length front + length others = omega (arith, ap length parts, length-append front others) in
      subst (λ (k : ℕ). Stops k bytes e) place stops

  stops_once : ((f : FieldSeen) (d e : WireError) → IsFaulty f d → IsFaulty f e → d ≡ e) → (at : ℕ) (bytes : List ℕ) (d e : WireError) → Stops at bytes d → Stops at bytes e → d ≡ e
  stops_once once at bytes d e (inl p) (inl q) = fault_once p q
  stops_once once at bytes d e (inl p) (inr q) = absurd (field_not_fault q.behind q.is_field q.parts p)
  stops_once once at bytes d e (inr p) (inl q) = absurd (field_not_fault p.behind p.is_field p.parts q)
  stops_once once at bytes d e (inr p) (inr q) =
      let one = field_once p.is_field q.is_field (sym p.parts ∙ q.parts) in
      once q.f d e (subst (λ (f : FieldSeen). IsFaulty f d) one.0 p.fault) q.fault

  module _ {X : Type 0} (Gives : FieldSeen → List X → Type 0) (apart : (f : FieldSeen) (xs : List X) (e : WireError) → Gives f xs → IsFaulty f e → ⊥) where
    -- a field that is read is no stop
    stops_apart : (at : ℕ) (bytes front others : List ℕ) (f : FieldSeen) (xs : List X) (e : WireError) → IsField at front f → Gives f xs → bytes ≡ front ++ others → Stops at bytes e → ⊥
    stops_apart at bytes front others f xs e is gives parts (inl fault) = field_not_fault others is parts fault
    stops_apart at bytes front others f xs e is gives parts (inr inside) =
        let one = field_once is inside.is_field (sym parts ∙ inside.parts) in
        apart inside.f xs e (subst (λ (g : FieldSeen). Gives g xs) one.0 gives) inside.fault

    -- ---- a message that is read

    never_stops : (xs ys : List FieldSeen) (at : ℕ) (bytes before rest : List ℕ) (items : List X) (e : WireError) → Fields at bytes xs → Gathers Gives xs items → Fields at before ys → bytes ≡ before ++ rest → Stops (at + length before) rest e → ⊥
    never_stops [] ys at bytes before rest items e x gathered y parts stops =
        absurd (omega (arith, stops_some (at + length before) rest e stops, ap length (sym (fields_none x) ∙ parts), length-append before rest))
    never_stops (g ∷ xs) [] at bytes before rest items e (more front others split p x) gathered none parts stops =
        stops_apart at rest front others g gathered.0 e p gathered.3 (sym parts ∙ split) (stops_start at rest e stops)
    never_stops (g ∷ xs) (h ∷ ys) at bytes before rest items e (more front others split p x) gathered (more front' others' split' q y) parts stops =
        let whole : front ++ others ≡ front' ++ (others' ++ rest) = sym split ∙ parts ∙ ap (λ (t : List ℕ). t ++ rest) split' ∙ append_assoc front' others' rest in
        let one = field_once p q whole in
        let fronts : front ≡ front' = append_cancel_right front front' others (whole ∙ ap (λ (t : List ℕ). front' ++ t) (sym one.1)) in
        let moved : Fields (at + length front') others xs = subst (λ (t : List ℕ). Fields (at + length t) others xs) fronts x in
        never_stops xs ys (at + length front') others others' rest gathered.1 e moved gathered.4 y one.1 (stops_behind at front' others' before rest e split' stops)

    pub message_not_fault : (at : ℕ) (bytes : List ℕ) (items : List X) (e : WireError) → Message Gives at bytes items → MessageFault Gives IsFaulty at bytes e → ⊥
    message_not_fault at bytes items e m h = never_stops m.fields h.read.fields at bytes h.before h.rest items e m.are_fields m.gathered h.read.are_fields h.parts h.fault

    -- ---- one fault

    module _ (once : (f : FieldSeen) (d e : WireError) → IsFaulty f d → IsFaulty f e → d ≡ e) where
      one_stop : (xs ys : List FieldSeen) (at : ℕ) (a b x y : List ℕ) (items items' : List X) (d e : WireError) → Fields at a xs → Gathers Gives xs items → Fields at b ys → Gathers Gives ys items' → a ++ x ≡ b ++ y → Stops (at + length a) x d → Stops (at + length b) y e → d ≡ e
      one_stop [] [] at a b x y items items' d e none gathered none gathered' parts p q =
          stops_once once (at + 0) y d e (subst (λ (t : List ℕ). Stops (at + 0) t d) parts p) q
      one_stop (g ∷ xs) [] at a b x y items items' d e (more front others split is u) gathered none gathered' parts p q =
          absurd (stops_apart at y front (others ++ x) g gathered.0 e is gathered.3 (sym parts ∙ ap (λ (t : List ℕ). t ++ x) split ∙ append_assoc front others x) (stops_start at y e q))
      one_stop [] (h ∷ ys) at a b x y items items' d e none gathered (more front others split is v) gathered' parts p q =
          absurd (stops_apart at x front (others ++ y) h gathered'.0 d is gathered'.3 (parts ∙ ap (λ (t : List ℕ). t ++ y) split ∙ append_assoc front others y) (stops_start at x d p))
      one_stop (g ∷ xs) (h ∷ ys) at a b x y items items' d e (more front others split is u) gathered (more front' others' split' is' v) gathered' parts p q =
          let whole : front ++ (others ++ x) ≡ front' ++ (others' ++ y) = sym (append_assoc front others x) ∙ ap (λ (t : List ℕ). t ++ x) (sym split) ∙ parts ∙ ap (λ (t : List ℕ). t ++ y) split' ∙ append_assoc front' others' y in
          let one = field_once is is' whole in
          let fronts : front ≡ front' = append_cancel_right front front' (others ++ x) (whole ∙ ap (λ (t : List ℕ). front' ++ t) (sym one.1)) in
          let moved : Fields (at + length front') others xs = subst (λ (t : List ℕ). Fields (at + length t) others xs) fronts u in
          let stop : Stops (at + length front' + length others) x d = subst (λ (t : List ℕ). Stops (at + length t + length others) x d) fronts (stops_behind at front others a x d split p) in
          one_stop xs ys (at + length front') others others' x y gathered.1 gathered'.1 d e moved gathered.4 v gathered'.4 one.1 stop (stops_behind at front' others' b y e split' q)

      pub message_fault_once : (at : ℕ) (bytes : List ℕ) (d e : WireError) → MessageFault Gives IsFaulty at bytes d → MessageFault Gives IsFaulty at bytes e → d ≡ e
      message_fault_once at bytes d e g h =
          one_stop g.read.fields h.read.fields at g.before h.before g.rest h.rest g.items h.items d e g.read.are_fields g.read.gathered h.read.are_fields h.read.gathered (sym g.parts ∙ h.parts) g.fault h.fault

-- ---- messages in messages

module _ (IsFault : ℕ → List ℕ → WireError → Type 0) where
  pub fault_in_once : ((at : ℕ) (bytes : List ℕ) (d e : WireError) → IsFault at bytes d → IsFault at bytes e → d ≡ e) → (place : ℕ) (bytes : Option (List ℕ)) (d e : WireError) → FaultIn IsFault place bytes d → FaultIn IsFault place bytes e → d ≡ e
  fault_in_once once place None d e p q = absurd p
  fault_in_once once place (Some bytes) d e p q = once place bytes d e p q

  module _ {X Y : Type 0} (IsInner : ℕ → List ℕ → List Y → Type 0) (wrap : List Y → List X) (plain : List X) where
    pub nested_not_fault : ((at : ℕ) (bytes : List ℕ) (xs : List Y) (e : WireError) → IsInner at bytes xs → IsFault at bytes e → ⊥) → (place : ℕ) (bytes : Option (List ℕ)) (xs : List X) (e : WireError) → Nested IsInner wrap plain place bytes xs → FaultIn IsFault place bytes e → ⊥
    nested_not_fault apart place None xs e p fault = fault
    nested_not_fault apart place (Some bytes) xs e p fault = apart place bytes p.0 e p.1 fault
