use Rattle.std.proofs.Common.{rules, ◌≡◌, subst, sym}
use Rattle.std.specs.Fmt.{signed_decimal}
use Rattle.json.specs.Print.{IsNumber}
use Rattle.conf_tree.proofs.Decimals.{is_number_signed}
use Rattle.conf_tree.proofs.write.write_integer.Goals as goal

pub number-requires : goal.number-requires
number-requires c =
    let text : c.format.result.now ≡ signed_decimal c.args.integer = search rules in
    subst IsNumber (sym text) (is_number_signed c.args.integer c.ranges.integer.sfits)
