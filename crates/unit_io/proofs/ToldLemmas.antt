-- Bytes that are written in several parts.
use Rattle.std.proofs.Common.{◌∙◌, ◌++◌, ℕ, List, Option, Some, Result, Ok, Err, OnOk, ap, sym}
use Rattle.std.proofs.lemmas.List.{append_assoc}
use Rattle.unit_io.specs.Told.{Adds, AddsFront}

-- all of both parts
pub adds_both : (before middle after : Option (List ℕ)) (first second : List ℕ) → Adds before middle first → Adds middle after second → Adds before after (first ++ second)
adds_both before middle after first second h k contents is =
    k (contents ++ first) (h contents is) ∙ ap Some (append_assoc contents first second)

-- all of the first part and a front of the second one
pub adds_front_behind : (before middle after : Option (List ℕ)) (first second : List ℕ) → Adds before middle first → AddsFront middle after second → AddsFront before after (first ++ second)
adds_front_behind before middle after first second h k contents is =
    let part = k (contents ++ first) (h contents is) in
    (first ++ part.0, part.1, ap (λ x. first ++ x) part.2 ∙ sym (append_assoc first part.0 part.1), part.3 ∙ ap Some (append_assoc contents first part.0))

-- a front of the first part alone
pub adds_front_first : (before after : Option (List ℕ)) (first second : List ℕ) → AddsFront before after first → AddsFront before after (first ++ second)
adds_front_first before after first second h contents is =
    let part = h contents is in
    (part.0, part.1 ++ second, ap (λ x. x ++ second) part.2 ∙ append_assoc part.0 part.1 second, part.3)

-- where all went well, so did what follows from it
pub on_ok : {T E : Type 0} {P Q : Type 0} (r : Result T E) → (P → Q) → OnOk r P → OnOk r Q
on_ok (Ok x) f h = f h
on_ok (Err e) f h = tt
