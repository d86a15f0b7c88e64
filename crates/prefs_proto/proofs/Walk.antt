-- Walking over a message whose fields give items.
use Rattle.std.proofs.Common.{◌≡◌, ℕ, inl, inr, List, [], ◌∷◌, ◌++◌, Option, None, Some, Err, refl, sym, ap, subst, ◌∙◌, append_assoc}
use Rattle.std.proofs.lemmas.List.{append-nil}
use Rattle.wire_codec.specs.declared.wire_error.WireError.{WireError}
use Rattle.wire_codec.specs.Fields.{FieldSeen, IsField}
use Rattle.wire_codec.specs.Faults.{FieldFault}
use Rattle.wire_codec.specs.Reader.{ReaderSeen, TakesField, IsAtEnd, Next, HasRead}
use Rattle.wire_codec.proofs.Walk.{has_read_none, has_read_more, has_read_all}
use Rattle.prefs_proto.specs.Message.{Gathers, Message, MessageFault}

module _ {X : Type 0} (Gives : FieldSeen → List X → Type 0) where
  -- the reader has passed fields of the message that give these items
  pub record Walk (at : ℕ) (message : List ℕ) (reader : ReaderSeen) (items : List X) : Type 0 where
    pub fields : List FieldSeen
    pub read : HasRead at message fields reader
    pub gathered : Gathers Gives fields items

  gathers_push : (fields : List FieldSeen) (f : FieldSeen) (xs ys : List X) → Gathers Gives fields xs → Gives f ys → Gathers Gives (fields ++ f ∷ []) (xs ++ ys)
  gathers_push [] f xs ys p gives = (ys, [], ap (λ (x : List X). x ++ ys) p ∙ sym (append-nil ys), gives, refl)
  gathers_push (first ∷ fields) f xs ys p gives =
      (p.0, p.1 ++ ys, ap (λ (x : List X). x ++ ys) p.2 ∙ append_assoc p.0 p.1 ys, p.3, gathers_push fields f p.1 ys p.4 gives)

  pub walk_none : (at : ℕ) (message : List ℕ) → Walk at message (record { rest = message; place = at; failed = None }) []
  walk_none at message = record { fields = []; read = has_read_none at message; gathered = refl }

  pub walk_more : (at : ℕ) (message : List ℕ) (old new : ReaderSeen) (f : FieldSeen) (xs ys : List X) → Walk at message old xs → TakesField old f new → Gives f ys → Walk at message new (xs ++ ys)
  walk_more at message old new f xs ys w takes gives = record {
    fields = w.fields ++ f ∷ [];
    read = has_read_more w.read takes;
    gathered = gathers_push w.fields f xs ys w.gathered gives;
  }

  pub walk_all : (at : ℕ) (message : List ℕ) (old new : ReaderSeen) (xs : List X) → Walk at message old xs → IsAtEnd old new → Message Gives at message xs
  walk_all at message old new xs w end = record { fields = w.fields; are_fields = has_read_all w.read end; gathered = w.gathered }

  front_of : (at : ℕ) (message : List ℕ) (old : ReaderSeen) (xs : List X) → (w : Walk at message old xs) → Message Gives at w.read.front xs
  front_of at message old xs w = record { fields = w.fields; are_fields = w.read.are_fields; gathered = w.gathered }

  not_failed : {e : WireError} {o : Option WireError} → o ≡ None → o ≡ Some e → ⊥
  not_failed p q = cc

  module _ (IsFaulty : FieldSeen → WireError → Type 0) where
    pub walk_fault : (at : ℕ) (message : List ℕ) (old new : ReaderSeen) (xs : List X) (e : WireError) → Walk at message old xs → Next old (Err e) new → MessageFault Gives IsFaulty at message e
    walk_fault at message old new xs e w (inl m) = record {
      before = w.read.front;
      rest = old.rest;
      items = xs;
      parts = w.read.parts;
      read = front_of at message old xs w;
      fault = inl (subst (λ (k : ℕ). FieldFault k old.rest e) w.read.place m.fault);
    }
    walk_fault at message old new xs e w (inr again) = absurd (not_failed w.read.going again.met)

    pub walk_inside : (at : ℕ) (message : List ℕ) (old new : ReaderSeen) (f : FieldSeen) (xs : List X) (e : WireError) → Walk at message old xs → TakesField old f new → IsFaulty f e → MessageFault Gives IsFaulty at message e
    walk_inside at message old new f xs e w takes fault = record {
      before = w.read.front;
      rest = old.rest;
      items = xs;
      parts = w.read.parts;
      read = front_of at message old xs w;
      fault = inr (record {
        f = f;
        text = takes.text;
        behind = new.rest;
        parts = takes.rest;
        is_field = subst (λ (k : ℕ). IsField k takes.text f) w.read.place takes.is_field;
        fault = fault;
      });
    }
