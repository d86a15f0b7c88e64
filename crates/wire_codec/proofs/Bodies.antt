-- What may stand in a group is what may stand in a message.
use Rattle.std.proofs.Common.{◌≡◌, ℕ, ◌+◌, List, [], ◌∷◌, ◌++◌, length, refl, sym, ap, subst, ◌∙◌, append_assoc, arith}
use Rattle.wire_codec.specs.Tag.{IsTag}
use Rattle.wire_codec.specs.Payload.{PayloadSeen, varint, eight, delimited, group, four, wire_code}
use Rattle.wire_codec.specs.Fields.{IsBody, no_field, plain_field, group_field, IsGroup, IsPayload, FieldSeen, IsField, Fields, none, more}
use Rattle.wire_codec.proofs.Groups.{body_append, one_plain, one_group}
use Rattle.wire_codec.proofs.OneField.{is_payload_plain}

payload_body : (number : ℕ) (payload : PayloadSeen) (tag lead text : List ℕ) → IsTag tag number (wire_code payload) → IsPayload number lead text payload → IsBody 100 (tag ++ (lead ++ text))
payload_body number (varint n) tag lead text t p = one_plain (varint n) tag lead text t p
payload_body number (eight n) tag lead text t p = one_plain (eight n) tag lead text t p
payload_body number (delimited bytes) tag lead text t p = one_plain (delimited bytes) tag lead text t p
payload_body number (four n) tag lead text t p = one_plain (four n) tag lead text t p
payload_body number group tag lead text t p =
    let whole : tag ++ (lead ++ text) ≡ tag ++ (p.1.body ++ p.1.end) = ap (λ (x : List ℕ). tag ++ (x ++ text)) p.0 ∙ ap (λ (x : List ℕ). tag ++ x) p.1.parts in
    subst (IsBody 100) (sym whole) (one_group t p.1.fields p.1.closed)

pub fields_are_body : (fields : List FieldSeen) {at : ℕ} {bytes : List ℕ} → Fields at bytes fields → IsBody 100 bytes
fields_are_body [] none = no_field
fields_are_body (f ∷ fields) (more front rest parts p others) =
    let one : IsBody 100 front = subst (IsBody 100) (sym p.parts) (payload_body f.number f.payload p.tag p.lead p.text p.is_tag p.is_payload) in
    subst (IsBody 100) (sym parts) (body_append one (fields_are_body fields others))

abbrev in_front : ℕ → ℕ → PayloadSeen → List ℕ → List ℕ → FieldSeen
in_front at number payload tag lead = record { number = number; place = at; payload = payload; payload_place = at + length tag + length lead }

in_front_is : (at number : ℕ) (payload : PayloadSeen) (tag lead text : List ℕ) → IsTag tag number (wire_code payload) → IsPayload number lead text payload → IsField at (tag ++ (lead ++ text)) (in_front at number payload tag lead)
in_front_is at number payload tag lead text t p = record { tag = tag; lead = lead; text = text; parts = refl; is_tag = t; is_payload = p; place = refl; payload_place = refl }

pub body_is_fields : (at : ℕ) {depth : ℕ} {bytes : List ℕ} → IsBody depth bytes → depth ≡ 100 → (fields : List FieldSeen) × Fields at bytes fields
body_is_fields at no_field e = ([], none)
body_is_fields at {bytes = bytes} (plain_field {number = number} payload tag lead text rest parts t p x) e =
    let others = body_is_fields (at + length (tag ++ (lead ++ text))) x e in
    let split : bytes ≡ (tag ++ (lead ++ text)) ++ rest = parts ∙ simp append_assoc in
    (in_front at number payload tag lead ∷ others.0, more (tag ++ (lead ++ text)) rest split (in_front_is at number payload tag lead text t (is_payload_plain number lead text payload p)) others.1)
body_is_fields at {bytes = bytes} (group_field {depth = inner} {number = number} start body end rest parts s x t y) e =
    let others = body_is_fields (at + length (start ++ ([] ++ (body ++ end)))) y e in
    let split : bytes ≡ (start ++ ([] ++ (body ++ end))) ++ rest = parts ∙ simp append_assoc in
    let depth : inner ≡ 99 = omega arith in
    let g : IsGroup number (body ++ end) = record { body = body; end = end; parts = refl; fields = subst (λ (k : ℕ). IsBody k body) depth x; closed = t } in
    (in_front at number group start [] ∷ others.0, more (start ++ ([] ++ (body ++ end))) rest split (in_front_is at number group start [] (body ++ end) s (refl, g)) others.1)
