use Rattle.std.proofs.Common.{◌≡◌, ◌∙◌, ◌++◌, ◌∷◌, [], ℕ, List, append_assoc, decimal, length, subst}
use Rattle.script_frames.specs.Spelling.{counted}
use Rattle.unit_io.specs.Told.{Adds, AddsFront}
use Rattle.unit_io.proofs.ToldLemmas.{adds_both, adds_front_behind, adds_front_first, on_ok}
use Rattle.unit_top.proofs.script.write_counted.Goals as goal

pub returns-in-Ok-clause-all : goal.returns-in-Ok-clause-all
returns-in-Ok-clause-all g c =
    let before = g.K.Sink.written c.args.out.now in
    let middle = g.K.Sink.written c.write_both.new.out in
    let after = g.K.Sink.written c.write_all.new.out in
    let bytes = c.args.bytes.now in
    let text : c.as_bytes-digits.result.now ≡ decimal (length bytes) = c.as_bytes-digits.ensures.value ∙ c.format.ensures.text in
    let line = decimal (length bytes) ++ 10 ∷ [] in
    let first : Adds before middle line = subst (λ (digits : List ℕ). Adds before middle (digits ++ 10 ∷ [])) text c.in-Ok.ensures.all in
    on_ok {P = Adds middle after bytes} {Q = Adds before after (counted bytes)} c.write_all.result
    (λ second. subst (Adds before after) (append_assoc (decimal (length bytes)) (10 ∷ []) bytes) (adds_both before middle after line bytes first second)) c.write_all.ensures.all

pub returns-in-Ok-clause-front : goal.returns-in-Ok-clause-front
returns-in-Ok-clause-front g c =
    let before = g.K.Sink.written c.args.out.now in
    let middle = g.K.Sink.written c.write_both.new.out in
    let after = g.K.Sink.written c.write_all.new.out in
    let bytes = c.args.bytes.now in
    let text : c.as_bytes-digits.result.now ≡ decimal (length bytes) = c.as_bytes-digits.ensures.value ∙ c.format.ensures.text in
    let line = decimal (length bytes) ++ 10 ∷ [] in
    let first : Adds before middle line = subst (λ (digits : List ℕ). Adds before middle (digits ++ 10 ∷ [])) text c.in-Ok.ensures.all in
    subst (AddsFront before after) (append_assoc (decimal (length bytes)) (10 ∷ []) bytes) (adds_front_behind before middle after line bytes first c.write_all.ensures.front)

pub returns-in-Err-clause-front : goal.returns-in-Err-clause-front
returns-in-Err-clause-front g c =
    let before = g.K.Sink.written c.args.out.now in
    let middle = g.K.Sink.written c.write_both.new.out in
    let bytes = c.args.bytes.now in
    let text : c.as_bytes-digits.result.now ≡ decimal (length bytes) = c.as_bytes-digits.ensures.value ∙ c.format.ensures.text in
    let line = decimal (length bytes) ++ 10 ∷ [] in
    let first : AddsFront before middle line = subst (λ (digits : List ℕ). AddsFront before middle (digits ++ 10 ∷ [])) text c.in-Err.ensures.front in
    subst (AddsFront before middle) (append_assoc (decimal (length bytes)) (10 ∷ []) bytes) (adds_front_first before middle line bytes first)
