use Rattle.std.proofs.Common.{◌≡◌, ◌∙◌, ◌++◌, ◌∷◌, [], ℕ, List, codes, decimal, subst}
use Rattle.unit_io.specs.Told.{Adds, AddsFront}
use Rattle.unit_io.proofs.ToldLemmas.{adds_both, adds_front_behind, adds_front_first, on_ok}
use Rattle.unit_io.proofs.stop.write_input_line.Goals as goal

pub returns-in-Ok-clause-all : goal.returns-in-Ok-clause-all
returns-in-Ok-clause-all g c =
    let before = g.E.Sink.written c.args.err.now in
    let middle = g.E.Sink.written c.write_both.new.out in
    let after = g.E.Sink.written c.write_all.new.out in
    let text : c.as_bytes-digits.result.now ≡ decimal c.args.place = c.as_bytes-digits.ensures.value ∙ c.format.ensures.text in
    let first : Adds before middle (codes "unit: input " ++ decimal c.args.place) =
    subst (λ (digits : List ℕ). Adds before middle (codes "unit: input " ++ digits)) text c.in-Ok.ensures.all in
    on_ok {P = Adds middle after (10 ∷ [])} {Q = Adds before after ((codes "unit: input " ++ decimal c.args.place) ++ 10 ∷ [])} c.write_all.result
    (adds_both before middle after (codes "unit: input " ++ decimal c.args.place) (10 ∷ []) first) c.write_all.ensures.all

pub returns-in-Ok-clause-front : goal.returns-in-Ok-clause-front
returns-in-Ok-clause-front g c =
    let before = g.E.Sink.written c.args.err.now in
    let middle = g.E.Sink.written c.write_both.new.out in
    let text : c.as_bytes-digits.result.now ≡ decimal c.args.place = c.as_bytes-digits.ensures.value ∙ c.format.ensures.text in
    let first : Adds before middle (codes "unit: input " ++ decimal c.args.place) =
    subst (λ (digits : List ℕ). Adds before middle (codes "unit: input " ++ digits)) text c.in-Ok.ensures.all in
    adds_front_behind before middle (g.E.Sink.written c.write_all.new.out) (codes "unit: input " ++ decimal c.args.place) (10 ∷ []) first c.write_all.ensures.front

pub returns-in-Err-clause-front : goal.returns-in-Err-clause-front
returns-in-Err-clause-front g c =
    let before = g.E.Sink.written c.args.err.now in
    let middle = g.E.Sink.written c.write_both.new.out in
    let text : c.as_bytes-digits.result.now ≡ decimal c.args.place = c.as_bytes-digits.ensures.value ∙ c.format.ensures.text in
    let first : AddsFront before middle (codes "unit: input " ++ decimal c.args.place) =
    subst (λ (digits : List ℕ). AddsFront before middle (codes "unit: input " ++ digits)) text c.in-Err.ensures.front in
    adds_front_first before middle (codes "unit: input " ++ decimal c.args.place) (10 ∷ []) first
