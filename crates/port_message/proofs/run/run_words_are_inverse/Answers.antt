use Rattle.std.proofs.Common.{◌≡◌, ◌∙◌, Bool, true, false, cond, Some, None, IsTrue, refl, ap, subst, arith}
use Rattle.port_message.specs.Words.{is_in_segment, numbers_of, pack_of, unpack_of}
use Rattle.unit_model.specs.declared.runs.Run.{Run}
use Rattle.port_message.proofs.RunWords.{numbers_of_packed, packed_numbers}
use Rattle.port_message.proofs.run.run_words_are_inverse.Goals as goal

chosen : (test : Bool) (run : Run) → IsTrue test → cond test (Some run) None ≡ Some run
chosen true run holds = refl
chosen false run holds = absurd cc

taken : (test : Bool) (run found : Run) → cond test (Some run) None ≡ Some found → IsTrue test × (run ≡ found)
taken true run found same = (refl, cc)
taken false run found same = absurd cc

read_back : (run : Run) → IsTrue (is_in_segment run) → numbers_of (pack_of run) ≡ run
read_back run inside = grind arith

pub returns-clause-numbers : goal.returns-clause-numbers
returns-clause-numbers c = λ run small short. numbers_of_packed run small short

pub returns-clause-word : goal.returns-clause-word
returns-clause-word c = λ word. packed_numbers word

pub returns-clause-packed : goal.returns-clause-packed
unfolding unpack_of
returns-clause-packed c = λ run inside.
    ap (λ (r : Run). cond (is_in_segment r) (Some r) None) (read_back run inside) ∙ chosen (is_in_segment run) run inside

pub returns-clause-unpacked : goal.returns-clause-unpacked
unfolding unpack_of
returns-clause-unpacked c = λ word run same.
    let found = taken (is_in_segment (numbers_of word)) (numbers_of word) run same in
    let whole : pack_of (numbers_of word) ≡ word = packed_numbers word in
    subst (λ (r : Run). IsTrue (is_in_segment r) × (pack_of r ≡ word)) found.1 (found.0, whole)
