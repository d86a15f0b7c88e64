-- Passing the rest of a group as a machine: what it comes to is one thing.
use Rattle.std.proofs.Common.{◌≡◌, ℕ, ◌+◌, ◌<◌, ◌≤◌, cond, eqb, List, [], ◌∷◌, ◌++◌, length, Result, Ok, Err, refl, sym, ap, subst, ◌∙◌, append_assoc, arith}
use Rattle.std.proofs.lemmas.Bool.{eq-eqb, ne_eqb, cond-true, cond-false}
use Rattle.std.proofs.lemmas.List.{length-append}
use Rattle.wire_codec.specs.declared.open_group.OpenGroup.{OpenGroup}
use Rattle.wire_codec.specs.declared.wire_error.WireError.{WireError}
use Rattle.wire_codec.specs.declared.wire_error.WireError.TheVariants.{LoneEndGroup, GroupOpen, TooDeep}
use Rattle.wire_codec.specs.Tag.{IsTag}
use Rattle.wire_codec.specs.Payload.{PayloadSeen, varint, eight, delimited, group, four, wire_code, IsPlain}
use Rattle.wire_codec.specs.Fields.{IsBody, no_field, plain_field, group_field}
use Rattle.wire_codec.specs.Faults.{PayloadFault, varint_fault, eight_cut, length_fault, text_cut, four_cut, Opened, shut, inside, FaultAt, bad_tag, bad_payload, lone_end, too_deep, no_end}
use Rattle.wire_codec.proofs.Groups.{tag_length}
use Rattle.wire_codec.proofs.Reading.{Read, tag_at, tag_again, tag_fault, passed, passed_is, payload_at, payload_again, payload_fault}

-- The machine reads the rest of a message with these groups open, or has stopped with the bytes behind
-- the outermost group or with a fault.
pub data State : Type 0 where
  run : List OpenGroup → ℕ → List ℕ → State
  stop : Result (List ℕ) WireError → State

abbrev pub after_payload : List OpenGroup → ℕ → List ℕ → Read (PayloadSeen × ℕ) → State
after_payload groups at bytes (Ok x) = run groups (at + passed bytes x.1) x.1
after_payload groups at bytes (Err e) = stop (Err e)

abbrev pub after_tag : OpenGroup → List OpenGroup → ℕ → List ℕ → Read (ℕ × ℕ) → State
after_tag g outer at bytes (Ok x) =
    cond (eqb x.0.1 3) (cond (eqb (length (g ∷ outer)) 100) (stop (Err (TooDeep at))) (run (record { number = x.0.0; place = at } ∷ (g ∷ outer)) (at + passed bytes x.1) x.1))
    (cond (eqb x.0.1 4) (cond (eqb g.number x.0.0) (run outer (at + passed bytes x.1) x.1) (stop (Err (LoneEndGroup at))))
    (after_payload (g ∷ outer) (at + passed bytes x.1) x.1 (payload_at (at + passed bytes x.1) x.0.1 x.1)))
after_tag g outer at bytes (Err e) = stop (Err e)

abbrev pub step : State → State
step (run [] at bytes) = stop (Ok bytes)
step (run (g ∷ outer) at bytes) = cond (eqb (length bytes) 0) (stop (Err (GroupOpen g.place))) (after_tag g outer at bytes (tag_at at bytes))
step (stop r) = stop r

-- ---- runs

pub data Goes : State → State → Type 0 where
  here : {s : State} → Goes s s
  then : {s t : State} → Goes (step s) t → Goes s t

pub goes_then : {a b c : State} → Goes a b → Goes b c → Goes a c
goes_then here y = y
goes_then (then x) y = then (goes_then x y)

one_step : {a b : State} → step a ≡ b → Goes a b
one_step {a} {b} e = then (subst (λ (s : State). Goes (step a) s) e here)

stopped : {r : Result (List ℕ) WireError} {t : State} → Goes (stop r) t → stop r ≡ t
stopped here = refl
stopped (then x) = stopped x

same_stop : {r q : Result (List ℕ) WireError} → stop r ≡ stop q → r ≡ q
same_stop e = cc

pub goes_once : {s : State} {r q : Result (List ℕ) WireError} → Goes s (stop r) → Goes s (stop q) → r ≡ q
goes_once here y = same_stop (stopped y)
goes_once (then x) here = sym (same_stop (stopped x))
goes_once (then x) (then y) = goes_once x y

-- ---- what stands in an open group is passed

pub plain_code_fits : (lead text : List ℕ) (payload : PayloadSeen) → IsPlain lead text payload → (wire_code payload < 6) × (wire_code payload ≡ 3 → ⊥) × (wire_code payload ≡ 4 → ⊥)
plain_code_fits lead text (varint n) p = (omega arith, (λ e. absurd (omega arith)), (λ e. absurd (omega arith)))
plain_code_fits lead text (eight n) p = (omega arith, (λ e. absurd (omega arith)), (λ e. absurd (omega arith)))
plain_code_fits lead text (delimited bytes) p = (omega arith, (λ e. absurd (omega arith)), (λ e. absurd (omega arith)))
plain_code_fits lead text group p = absurd p
plain_code_fits lead text (four n) p = (omega arith, (λ e. absurd (omega arith)), (λ e. absurd (omega arith)))

step_some : (g : OpenGroup) (outer : List OpenGroup) (at : ℕ) (bytes : List ℕ) → 0 < length bytes → step (run (g ∷ outer) at bytes) ≡ after_tag g outer at bytes (tag_at at bytes)
step_some g outer at bytes some = cond-false (eqb (length bytes) 0) _ _ (ne_eqb _ _ (λ e. absurd (omega arith)))

tagged : (g : OpenGroup) (outer : List OpenGroup) (at : ℕ) {tag : List ℕ} {number code : ℕ} → IsTag tag number code → code < 6 → (rest : List ℕ)
    → step (run (g ∷ outer) at (tag ++ rest)) ≡ after_tag g outer at (tag ++ rest) (Ok ((number, code), rest))
tagged g outer at {tag} t plain rest =
    step_some g outer at (tag ++ rest) (omega (arith, length-append tag rest, tag_length t)) ∙ ap (after_tag g outer at (tag ++ rest)) (tag_again at t plain rest)

state_at : (groups : List OpenGroup) (rest : List ℕ) {a b : ℕ} → a ≡ b → run groups a rest ≡ run groups b rest
state_at groups rest e = ap (λ (k : ℕ). run groups k rest) e

plain_goes : (g : OpenGroup) (outer : List OpenGroup) (at : ℕ) {number : ℕ} (payload : PayloadSeen) (tag lead text rest : List ℕ) → IsTag tag number (wire_code payload) → IsPlain lead text payload
    → Goes (run (g ∷ outer) at (tag ++ (lead ++ (text ++ rest)))) (run (g ∷ outer) (at + length tag + length lead + length text) rest)
plain_goes g outer at {number} payload tag lead text rest t p =
    let fits = plain_code_fits lead text payload p in
    let behind = lead ++ (text ++ rest) in
    let place : at + passed (tag ++ behind) behind ≡ at + length tag = ap (λ (k : ℕ). at + k) (passed_is tag behind) in
    let far : passed behind rest ≡ length lead + length text = omega (arith, length-append lead (text ++ rest), length-append text rest) in
    one_step (
    tagged g outer at t fits.0 behind
    ∙ cond-false _ _ _ (ne_eqb (wire_code payload) 3 fits.1)
    ∙ cond-false _ _ _ (ne_eqb (wire_code payload) 4 fits.2)
    ∙ ap (λ (k : ℕ). after_payload (g ∷ outer) k behind (payload_at k (wire_code payload) behind)) place
    ∙ ap (after_payload (g ∷ outer) (at + length tag) behind) (payload_again (at + length tag) lead text payload p rest)
    ∙ state_at (g ∷ outer) rest (omega (arith, far)))

start_goes : (g : OpenGroup) (outer : List OpenGroup) (at : ℕ) {number : ℕ} (tag rest : List ℕ) → IsTag tag number 3 → length (g ∷ outer) < 100
    → Goes (run (g ∷ outer) at (tag ++ rest)) (run (record { number = number; place = at } ∷ (g ∷ outer)) (at + length tag) rest)
start_goes g outer at {number} tag rest t room =
    one_step (
    tagged g outer at t (omega arith) rest
    ∙ cond-false _ _ _ (ne_eqb (length (g ∷ outer)) 100 (λ e. absurd (omega arith)))
    ∙ state_at (record { number = number; place = at } ∷ (g ∷ outer)) rest (ap (λ (k : ℕ). at + k) (passed_is tag rest)))

pub end_goes : (g : OpenGroup) (outer : List OpenGroup) (at : ℕ) (tag rest : List ℕ) → IsTag tag g.number 4
    → Goes (run (g ∷ outer) at (tag ++ rest)) (run outer (at + length tag) rest)
end_goes g outer at tag rest t =
    one_step (
    tagged g outer at t (omega arith) rest
    ∙ cond-true _ _ _ (eq-eqb g.number g.number refl)
    ∙ state_at outer rest (ap (λ (k : ℕ). at + k) (passed_is tag rest)))

-- the same with the bytes and the place in another form
at_bytes : {groups : List OpenGroup} {at : ℕ} {t : State} {a b : List ℕ} → a ≡ b → Goes (run groups at b) t → Goes (run groups at a) t
at_bytes {groups} {at} {t} e x = subst (λ (bytes : List ℕ). Goes (run groups at bytes) t) (sym e) x

to_place : {groups : List OpenGroup} {s : State} {rest : List ℕ} {a b : ℕ} → a ≡ b → Goes s (run groups a rest) → Goes s (run groups b rest)
to_place {groups} {s} {rest} e x = subst (λ (k : ℕ). Goes s (run groups k rest)) e x

pub body_goes : {depth : ℕ} {body : List ℕ} → IsBody depth body → (g : OpenGroup) (outer : List OpenGroup) (at : ℕ) (rest : List ℕ) → depth + length (g ∷ outer) ≤ 100
    → Goes (run (g ∷ outer) at (body ++ rest)) (run (g ∷ outer) (at + length body) rest)
body_goes no_field g outer at rest room = to_place (omega arith) here
body_goes {body = body} (plain_field payload tag lead text others e t p x) g outer at rest room =
    let regrouped : body ++ rest ≡ tag ++ (lead ++ (text ++ (others ++ rest))) = rw e (simp append_assoc) in
    let len : length body ≡ length tag + (length lead + (length text + length others)) = rw e (simp length-append) in
    at_bytes regrouped (goes_then (plain_goes g outer at payload tag lead text (others ++ rest) t p)
    (to_place (omega (arith, len)) (body_goes x g outer (at + length tag + length lead + length text) rest room)))
body_goes {body = body} (group_field {depth} {number} start inner end others e s x t y) g outer at rest room =
    let regrouped : body ++ rest ≡ start ++ (inner ++ (end ++ (others ++ rest))) = rw e (simp append_assoc) in
    let len : length body ≡ length start + (length inner + (length end + length others)) = rw e (simp length-append) in
    at_bytes regrouped (goes_then (start_goes g outer at start (inner ++ (end ++ (others ++ rest))) s (omega arith))
    (goes_then (body_goes x (record { number = number; place = at }) (g ∷ outer) (at + length start) (end ++ (others ++ rest)) (omega arith))
    (goes_then (end_goes (record { number = number; place = at }) (g ∷ outer) (at + length start + length inner) end (others ++ rest) t)
    (to_place (omega (arith, len)) (body_goes y g outer (at + length start + length inner + length end) rest room)))))

-- ---- a fault stops the machine

pub payload_code_plain : {at code : ℕ} {rest : List ℕ} {e : WireError} → PayloadFault at code rest e → (code < 6) × (code ≡ 3 → ⊥) × (code ≡ 4 → ⊥)
payload_code_plain (varint_fault f) = (omega arith, (λ e. absurd (omega arith)), (λ e. absurd (omega arith)))
payload_code_plain (eight_cut f) = (omega arith, (λ e. absurd (omega arith)), (λ e. absurd (omega arith)))
payload_code_plain (length_fault f) = (omega arith, (λ e. absurd (omega arith)), (λ e. absurd (omega arith)))
payload_code_plain (text_cut lead after e f g) = (omega arith, (λ e. absurd (omega arith)), (λ e. absurd (omega arith)))
payload_code_plain (four_cut f) = (omega arith, (λ e. absurd (omega arith)), (λ e. absurd (omega arith)))

pub fault_goes : {at : ℕ} {g : OpenGroup} {outer : List OpenGroup} {rest : List ℕ} {e : WireError} → FaultAt at (g ∷ outer) rest e → Goes (run (g ∷ outer) at rest) (stop (Err e))
fault_goes {at} {g} {outer} {rest} (bad_tag some f) = one_step (step_some g outer at rest some ∙ ap (after_tag g outer at rest) (tag_fault f))
fault_goes {at} {g} {outer} {rest} (bad_payload {number = number} {code = code} tag after parts t f) =
    let fits = payload_code_plain f in
    let place : at + passed (tag ++ after) after ≡ at + length tag = ap (λ (k : ℕ). at + k) (passed_is tag after) in
    at_bytes parts (one_step (
    tagged g outer at t fits.0 after
    ∙ cond-false _ _ _ (ne_eqb code 3 fits.1)
    ∙ cond-false _ _ _ (ne_eqb code 4 fits.2)
    ∙ ap (λ (k : ℕ). after_payload (g ∷ outer) k after (payload_at k code after)) place
    ∙ ap (after_payload (g ∷ outer) (at + length tag) after) (payload_fault f)))
fault_goes {at} {g} {outer} {rest} (lone_end tag after parts t other) =
    at_bytes parts (one_step (tagged g outer at t (omega arith) after ∙ cond-false _ _ _ (ne_eqb _ _ other)))
fault_goes {at} {g} {outer} {rest} (too_deep tag after parts t full) =
    at_bytes parts (one_step (tagged g outer at t (omega arith) after ∙ cond-true _ _ _ (eq-eqb (length (g ∷ outer)) 100 full)))
fault_goes no_end = one_step refl

-- ---- the front of a group is passed

pub record BeginsGroup (at : ℕ) (front rest : List ℕ) (groups : List OpenGroup) : Type 0 where
  pub start : List ℕ
  pub behind : List ℕ
  pub first : OpenGroup
  pub parts : front ≡ start ++ behind
  pub is_tag : IsTag start first.number 3
  pub place : first.place ≡ at
  pub goes : Goes (run (first ∷ []) (at + length start) (behind ++ rest)) (run groups (at + length front) rest)

same_group : (g : OpenGroup) (place : ℕ) → g.place ≡ place → g ≡ record { number = g.number; place = place }
same_group g place e = ap (λ (k : ℕ). record g { place = k }) e

pub opened_goes : {at : ℕ} {front : List ℕ} {g : OpenGroup} {outer : List OpenGroup} → Opened at front (g ∷ outer) → (rest : List ℕ) → BeginsGroup at front rest (g ∷ outer)
opened_goes {at} {front} {g} (inside before tag body parts shut place t room b) rest =
    let len : length front ≡ length tag + length body = rw parts (length-append tag body) in
    record {
      start = tag;
      behind = body;
      first = g;
      parts = parts;
      is_tag = t;
      place = place ∙ (let none : at + 0 ≡ at = omega arith in none);
      goes = to_place (omega (arith, len)) (body_goes b g [] (at + length tag) rest (omega arith));
    }
opened_goes {at} {front} {g} (inside {outer = next ∷ outer} before tag body parts (inside before' tag' body' parts' inner place' t' room' b') place t room b) rest =
    let h = opened_goes (inside before' tag' body' parts' inner place' t' room' b') (tag ++ (body ++ rest)) in
    let len : length front ≡ length before + (length tag + length body) = rw parts (simp length-append) in
    record {
      start = h.start;
      behind = h.behind ++ (tag ++ body);
      first = h.first;
      parts = parts ∙ ap (λ (x : List ℕ). x ++ (tag ++ body)) h.parts ∙ append_assoc h.start h.behind (tag ++ body);
      is_tag = h.is_tag;
      place = h.place;
      goes = at_bytes (simp append_assoc) (goes_then h.goes
          (goes_then (start_goes next outer (at + length before) tag (body ++ rest) t room)
          (subst (λ (x : OpenGroup). Goes (run (x ∷ (next ∷ outer)) (at + length before + length tag) (body ++ rest)) (run (g ∷ (next ∷ outer)) (at + length front) rest)) (same_group g (at + length before) place)
          (to_place (omega (arith, len)) (body_goes b g (next ∷ outer) (at + length before + length tag) rest (omega arith))))));
    }
