-- Of one stream other items are armed and not pushed than before.
use Rattle.std.proofs.Common.{ℕ, ◌≡◌, ◌≤◌, ◌==◌, Bool, cond, List, refl, ap, ◌∙◌, arith}
use Rattle.std.proofs.lemmas.Bool.{eq-eqb, ne_eqb}
use Rattle.unit_model.specs.PartOrder.{Puts}
use Rattle.unit_model.specs.declared.machine.Core.{Core}
use Rattle.fabric_rule.specs.Parts.{KnowsWork}
use Rattle.fabric_rule.specs.Views.{draw_weight}
use Rattle.fabric_rule.specs.declared.view.ArmNote.{ArmNote}
use Rattle.fabric_rule.specs.declared.view.Work.{Work}
use Rattle.fabric_rule.specs.declared.view.Work.TheVariants.{Drawn, Posted, Taken, Sending, Holding}
use Rattle.fabric_rule.proofs.Noting.{work_stream}

-- the items of this stream are these now
abbrev pub armed_now : (ℕ → List ℕ) → ℕ → List ℕ → ℕ → List ℕ
armed_now armed stream now k = cond (k == stream) now (armed k)

pub puts_now : (armed : ℕ → List ℕ) (stream : ℕ) (old now : List ℕ) → armed stream ≡ old → Puts armed (armed_now armed stream now) stream old now
puts_now armed stream old now before = record {
  before = before;
  after = ap (λ (b : Bool). cond b now (armed stream)) (eq-eqb stream stream refl);
  others = λ k ne. ap (λ (b : Bool). cond b now (armed k)) (ne_eqb k stream ne);
}

-- a work of another stream says what it said
pub work_rearmed : (core : Core) (armed armed' : ℕ → List ℕ) (seat : ℕ) (arms : List ArmNote) (w : Work) → armed' (work_stream w) ≡ armed (work_stream w) → KnowsWork core armed seat arms w → KnowsWork core armed' seat arms w
work_rearmed core armed armed' seat arms (Drawn stream) same old = old
work_rearmed core armed armed' seat arms (Posted stream item) same old = old
work_rearmed core armed armed' seat arms (Taken stream poster parts) same old =
    record { took = old.took; unclosed = old.unclosed; to = old.to; parts_out = old.parts_out; unfinished = old.unfinished; nothing = same ∙ old.nothing }
work_rearmed core armed armed' seat arms (Sending stream poster parts last item) same old =
    record { took = old.took; unclosed = old.unclosed; to = old.to; parts_out = old.parts_out; finished = old.finished; one = same ∙ old.one }
work_rearmed core armed armed' seat arms Holding same old = old

-- and so does one of who drew or posted a stream
pub drawn_rearmed : (core : Core) (armed armed' : ℕ → List ℕ) (seat : ℕ) (arms : List ArmNote) (key : ℕ) (w : Work) → 1 ≤ draw_weight key w → KnowsWork core armed seat arms w → KnowsWork core armed' seat arms w
drawn_rearmed core armed armed' seat arms key (Drawn stream) has old = old
drawn_rearmed core armed armed' seat arms key (Posted stream item) has old = old
drawn_rearmed core armed armed' seat arms key (Taken stream poster parts) has old = absurd (omega (arith, has))
drawn_rearmed core armed armed' seat arms key (Sending stream poster parts last item) has old = absurd (omega (arith, has))
drawn_rearmed core armed armed' seat arms key Holding has old = old
