use Rattle.std.proofs.Common.{ℕ, ◌≡◌, ◌+◌, ◌-◌, ◌*◌, ◌/◌, ◌<◌, ◌==◌, ◌∙◌, ⊎_elim, Bool, List, [], true, if◌then◌else◌, set, slice_index, refl, sym, ap, subst, arith, length-set}
use Rattle.std.proofs.lemmas.Bool.{eq-eqb, cases_eq}
use Rattle.chunk_map.specs.declared.view.MapEvent.{MapEvent}
use Rattle.chunk_map.specs.declared.view.MapEvent.TheVariants.{SawWord}
use Rattle.chunk_map.specs.Gains.{SameSearch, more}
use Rattle.chunk_map.specs.Looks.{seen_free, was_gained, was_looked}
use Rattle.chunk_map.specs.Words.{is_free}
use Rattle.chunk_map.proofs.ClaimLaws.{shows_look, seen_elsewhere}
use Rattle.chunk_map.proofs.GainLaws.{search_on, search_same, steps_on, steps_one, still_true}
use Rattle.chunk_map.proofs.search.look.Goals as goal

pub loop-number-init : goal.loop-number-init
loop-number-init g c =
    let s = g.T.MapSteps in
    let map = c.args.map.now in (
      c.requires.own,
      c.told-words,
      (λ chunk is low. absurd (omega (arith, is, low))),
      (λ chunk ne. refl),
      search_same (s.events map (s.knows c.args.seat.now)),
      (λ f. refl),
      (λ chunk. refl),
      (λ chunk low high. absurd (omega (arith, low, high))),
      ([], refl),
    )

pub loop-number-preserved : goal.loop-number-preserved
loop-number-preserved g c =
    let s = g.T.MapSteps in
    let laws = g.met.T.MapSteps in
    let map = c.args.map.now in
    let now = c.loop-number.invariant in
    let number : ℕ = 10 * c.args.segment + c.loop-number.number in
    let found : ℕ = c.see_word.result in
    let old : List MapEvent = s.events map (s.knows c.loop-number.seat) in
    let view : s.events map (s.knows c.see_word.new.seat) ≡ more (SawWord number found) old = ap (s.events map) c.see_word.ensures.view ∙ laws.logs map (SawWord number found) (s.knows c.loop-number.seat) in
    let here : c.loop-number.number < 10 = c.loop-number-test.true in
    let words = set c.loop-number.words c.loop-number.number found in (
      c.see_word.ensures.own,
      length-set c.loop-number.words c.loop-number.number found ∙ now.1,
      (λ chunk within below. subst (λ (u : List MapEvent). is_free (slice_index words) (chunk - 640 * c.args.segment) ≡ seen_free u chunk) (sym view) (shows_look c.loop-number.words old c.args.segment c.loop-number.number found (omega (arith, here, now.1)) here now.2 (λ other from. now.6 other ∙ c.requires.fresh other from) chunk within (omega (arith, below)))),
      (λ chunk ne. ap (λ (u : List MapEvent). seen_free u chunk) view ∙ seen_elsewhere old number found chunk (λ is. ne (omega (arith, is, here))) ∙ now.3 chunk ne),
      subst (SameSearch (s.events map (s.knows c.args.seat.now))) (sym view) (search_on (s.events map (s.knows c.args.seat.now)) old (more (SawWord number found) old) now.4 record { opened = refl; looked = λ chunk was. still_true (chunk / 64 == number) (was_looked old chunk) was; searched = λ count before t. t }),
      (λ f. ap (s.weighs map f) c.see_word.ensures.view ∙ laws.reads map f number found (s.knows c.loop-number.seat) ∙ now.5 f),
      (λ chunk. ap (λ (u : List MapEvent). was_gained u chunk) view ∙ now.6 chunk),
      (λ chunk from below. ap (λ (u : List MapEvent). was_looked u chunk) view ∙ ⊎_elim
          (λ is. ap (λ (b : Bool). if b then true else was_looked old chunk) (eq-eqb (chunk / 64) number is))
          (λ ne. still_true (chunk / 64 == number) (was_looked old chunk) (now.7 chunk from (omega (arith, below, ne))))
          (cases_eq (chunk / 64) number)),
      steps_on s.View (s.after map) (s.knows c.args.seat.now) (s.knows c.loop-number.seat) (s.knows c.see_word.new.seat) now.8 (steps_one s.View (s.after map) (SawWord number found) (s.knows c.loop-number.seat) (s.knows c.see_word.new.seat) c.see_word.ensures.view),
    )

pub returns-clause-shows : goal.returns-clause-shows
returns-clause-shows g c chunk is = c.loop-number.invariant.2 chunk is (omega (arith, is, c.loop-number-test.false))

pub returns-clause-looked : goal.returns-clause-looked
returns-clause-looked g c chunk is = c.loop-number.invariant.7 chunk (omega (arith, is)) (omega (arith, is, c.loop-number-test.false))
