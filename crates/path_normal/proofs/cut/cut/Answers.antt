use Rattle.std.proofs.Common.{◌≡◌, Some, None, ◌∙◌, sym, ap, option_map}
use Rattle.unit_types.specs.Text.{cut}
use Rattle.unit_types.proofs.CutLemmas.{is_cut, is_whole}
use Rattle.path_normal.proofs.cut.cut.Goals as goal

pub returns-in-Some-clause-parts : goal.returns-in-Some-clause-parts
returns-in-Some-clause-parts c =
    let is : cut c.args.separator c.args.text.now ≡ Some (c.in-Some.front.now, c.in-Some.behind.now) = sym c.cut.ensures ∙ ap (option_map (λ parts. (parts.0.now, parts.1.now))) c.in-Some.is in
    (is_cut c.args.separator c.args.text.now c.in-Some.front.now c.in-Some.behind.now is).parts

pub returns-in-Some-clause-front : goal.returns-in-Some-clause-front
returns-in-Some-clause-front c =
    let is : cut c.args.separator c.args.text.now ≡ Some (c.in-Some.front.now, c.in-Some.behind.now) = sym c.cut.ensures ∙ ap (option_map (λ parts. (parts.0.now, parts.1.now))) c.in-Some.is in
    (is_cut c.args.separator c.args.text.now c.in-Some.front.now c.in-Some.behind.now is).front_is

pub returns-in-Some-clause-behind : goal.returns-in-Some-clause-behind
returns-in-Some-clause-behind c =
    let is : cut c.args.separator c.args.text.now ≡ Some (c.in-Some.front.now, c.in-Some.behind.now) = sym c.cut.ensures ∙ ap (option_map (λ parts. (parts.0.now, parts.1.now))) c.in-Some.is in
    (is_cut c.args.separator c.args.text.now c.in-Some.front.now c.in-Some.behind.now is).behind_is

pub returns-in-Some-clause-clean : goal.returns-in-Some-clause-clean
returns-in-Some-clause-clean c =
    let is : cut c.args.separator c.args.text.now ≡ Some (c.in-Some.front.now, c.in-Some.behind.now) = sym c.cut.ensures ∙ ap (option_map (λ parts. (parts.0.now, parts.1.now))) c.in-Some.is in
    (is_cut c.args.separator c.args.text.now c.in-Some.front.now c.in-Some.behind.now is).clean

pub returns-in-Some-clause-shorter : goal.returns-in-Some-clause-shorter
returns-in-Some-clause-shorter c =
    let is : cut c.args.separator c.args.text.now ≡ Some (c.in-Some.front.now, c.in-Some.behind.now) = sym c.cut.ensures ∙ ap (option_map (λ parts. (parts.0.now, parts.1.now))) c.in-Some.is in
    (is_cut c.args.separator c.args.text.now c.in-Some.front.now c.in-Some.behind.now is).shorter

pub returns-in-None-clause-parts : goal.returns-in-None-clause-parts
returns-in-None-clause-parts c =
    let is : cut c.args.separator c.args.text.now ≡ None = sym c.cut.ensures ∙ ap (option_map (λ parts. (parts.0.now, parts.1.now))) c.in-None.is in
    (is_whole c.args.separator c.args.text.now is).parts

pub returns-in-None-clause-front : goal.returns-in-None-clause-front
returns-in-None-clause-front c =
    let is : cut c.args.separator c.args.text.now ≡ None = sym c.cut.ensures ∙ ap (option_map (λ parts. (parts.0.now, parts.1.now))) c.in-None.is in
    (is_whole c.args.separator c.args.text.now is).front_is

pub returns-in-None-clause-behind : goal.returns-in-None-clause-behind
returns-in-None-clause-behind c =
    let is : cut c.args.separator c.args.text.now ≡ None = sym c.cut.ensures ∙ ap (option_map (λ parts. (parts.0.now, parts.1.now))) c.in-None.is in
    (is_whole c.args.separator c.args.text.now is).behind_is

pub returns-in-None-clause-clean : goal.returns-in-None-clause-clean
returns-in-None-clause-clean c =
    let is : cut c.args.separator c.args.text.now ≡ None = sym c.cut.ensures ∙ ap (option_map (λ parts. (parts.0.now, parts.1.now))) c.in-None.is in
    (is_whole c.args.separator c.args.text.now is).clean
