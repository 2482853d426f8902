use Rattle.std.proofs.Common.{◌∙◌, List, ℕ, true, false, subst, sym}
use Rattle.http_front.specs.Kept.{HasRead}
use Rattle.http_front.specs.NextUnit.{next_unit}
use Rattle.http_front.specs.Reading.{next_reading, reading_of}
use Rattle.control_api.specs.Control.{content_limit}
use Rattle.control_api.specs.Plans.{IsSoundNext, nowhere}
use Rattle.control_api.proofs.FrontLemmas.{behind_told, plain, reading_at_end, sound_next, told}
use Rattle.control_api.proofs.front.front_of.Goals as goal

pub returns-in-Continue-clause-due : goal.returns-in-Continue-clause-due
returns-in-Continue-clause-due c =
    let bytes = c.args.bytes.now in
    let read : HasRead (reading_at_end bytes) c.end.new.self =
    c.end.ensures (reading_of nowhere nowhere bytes false)
    (subst (λ (b : List ℕ). HasRead (reading_of nowhere nowhere b false) c.over-reader.result) c.in_ok-copy_of.ensures c.over-reader.ensures.read) in
    sym (told bytes (sym (c.in_ok-next.ensures.answer (reading_at_end bytes) read) ∙ c.in-Continue.is))

pub returns-in-Continue-clause-next : goal.returns-in-Continue-clause-next
returns-in-Continue-clause-next c =
    let bytes = c.args.bytes.now in
    let read : HasRead (reading_at_end bytes) c.end.new.self =
    c.end.ensures (reading_of nowhere nowhere bytes false)
    (subst (λ (b : List ℕ). HasRead (reading_of nowhere nowhere b false) c.over-reader.result) c.in_ok-copy_of.ensures c.over-reader.ensures.read) in
    c.in_ok-next-in-Continue.ensures.answer (next_reading (reading_at_end bytes) content_limit) (c.in_ok-next.ensures.ok (reading_at_end bytes) read)
    ∙ behind_told bytes (told bytes (sym (c.in_ok-next.ensures.answer (reading_at_end bytes) read) ∙ c.in-Continue.is))

pub returns-in-Continue-clause-sound : goal.returns-in-Continue-clause-sound
returns-in-Continue-clause-sound c =
    let bytes = c.args.bytes.now in
    subst IsSoundNext (sym (returns-in-Continue-clause-next c))
    (sound_next (next_unit bytes true content_limit).found (c.laws_of_units.ensures.status bytes true content_limit))

pub returns : goal.returns
returns c =
    let bytes = c.args.bytes.now in
    let read : HasRead (reading_at_end bytes) c.end.new.self =
    c.end.ensures (reading_of nowhere nowhere bytes false)
    (subst (λ (b : List ℕ). HasRead (reading_of nowhere nowhere b false) c.over-reader.result) c.in_ok-copy_of.ensures c.over-reader.ensures.read) in
    let is = plain bytes c.in_ok-next.next (c.in_ok-next.ensures.answer (reading_at_end bytes) read) c.in_default.not-Continue in
    record {
      due = sym is.due;
      next = is.next;
      sound = subst IsSoundNext (sym is.next) (sound_next (next_unit bytes true content_limit).found (c.laws_of_units.ensures.status bytes true content_limit));
    }
