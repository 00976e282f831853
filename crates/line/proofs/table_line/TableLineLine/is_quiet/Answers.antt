use Rattle.std.proofs.Common.{◌%◌, sym, ◌∙◌, rules, tests}
use Rattle.std.proofs.lemmas.Iterator.{YieldsList-from_slice}
use Rattle.std.proofs.lemmas.Iterator.Search.{all_from_yields_List}
use Rattle.line.proofs.Levels.{all_high_rotate}
use Rattle.line.proofs.table_line.TableLineLine.is_quiet.Goals as goal

pub returns : goal.returns
returns c =
    let t = c.args.self.now in
    all_from_yields_List (λ l. l) _ _ c.all.result c.all.ensures.ran (YieldsList-from_slice t.table cc) (λ x b q k. search (rules, tests))
    ∙ sym (all_high_rotate (t.head % 64) t.table)
