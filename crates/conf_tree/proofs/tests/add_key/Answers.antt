use Rattle.std.proofs.Common.{◌≡◌, IsUtf8, List, ℕ, All, subst, sym}
use Rattle.std.proofs.lemmas.List.Elements.{All-push, All-same}
use Rattle.conf_tree.proofs.tests.add_key.Goals as goal

pub returns-in_ok-push-in-Some : goal.returns-in_ok-push-in-Some
returns-in_ok-push-in-Some c =
    All-same IsUtf8 c.push.new.self.items _ c.in_ok-push-in-Some.ensures.items (All-push IsUtf8 c.args.keys.now.items c.in_ok-key-in-Some.field-0 c.requires c.in_ok-key-in-Some.ensures)
