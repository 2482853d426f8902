use Rattle.std.proofs.Common.{◌≡◌, ◌∙◌, ap, ap₂, codes, pos, rules, true, Option, Some}
use Rattle.clap.specs.Walk.{Rule, rule_of}
use Rattle.clap.specs.Simple.{new_rule}
use Rattle.clap.specs.declared.builder.arg.Arg.{Arg}
use Rattle.clap.specs.declared.builder.range.ValueRange.{ValueRange}
use Rattle.clap.specs.declared.builder.value_parser.ValueParser.{ValueParser}
use Rattle.clap.specs.declared.builder.value_parser.ValueParser.TheVariants.{Signed}
use Rattle.unit_serve.proofs.words.ports_arg.Goals as goal

pub returns-clause-rule : goal.returns-clause-rule
returns-clause-rule c =
    let numbers = c.num_args.result.num_vals in
    let parser = c.value_parser-2.result.value_parser in
    let is_numbers : numbers ≡ Some (record { start_inclusive = 1; end_inclusive = 4 }) = search rules in
    let is_parser : parser ≡ Some (Signed (pos 1) (pos 65535)) = search rules in
    ap rule_of c.value_parser-2.ensures.others
    ∙ ap (λ (a : Arg). rule_of (record a { value_parser = parser })) c.num_args.ensures.0
    ∙ ap (λ (a : Arg). rule_of (record a { num_vals = numbers; value_parser = parser })) c.required.ensures
    ∙ ap (λ (r : Rule). record r { required = true; range = numbers; parser = parser }) c.new.ensures.rule
    ∙ ap₂ (λ (n : Option ValueRange) (p : Option ValueParser). record (new_rule (codes "ports")) { required = true; range = n; parser = p }) is_numbers is_parser
