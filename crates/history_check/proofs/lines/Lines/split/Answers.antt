use Rattle.std.proofs.Common.{◌≡◌, refl, rules}
use Rattle.history_check.proofs.Supplies.{split_whole, split_none}
use Rattle.history_check.proofs.lines.Lines.split.Goals as goal

pub returns-in_default : goal.returns-in_default
returns-in_default c =
    let text : c.deref.result.now ≡ c.args.self.now.line = search rules in
    (split_none c.args.looked c.args.self.now c.deref.result.now text c.requires.looked c.requires.unbroken c.in_default.ensures, refl)

pub returns : goal.returns
returns c =
    let text : c.deref.result.now ≡ c.args.self.now.line = search rules in
    let more : c.deref-2.result.now ≡ c.args.self.now.line = search rules in
    split_whole c.args.looked c.in-Some.place c.args.self.now _ c.deref.result.now c.deref-2.result.now text more c.requires.looked c.requires.unbroken c.in-Some.ensures c.requires.ahead
    (search rules) (search rules) (search rules)
