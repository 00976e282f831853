-- The words of a sweep's records are those of its cycles' reports, in either order of the two records of one cycle.
use Rattle.std.proofs.Common.{◌≡◌, ℕ, Bool, true, false, cond, List, [], ◌∷◌, ◌++◌, Some, None, Option, sym, refl, ap, ◌∙◌, append_assoc, append-nil}
use Rattle.std.proofs.lemmas.Bool.{cond_both}
use Rattle.terms.specs.declared.channel_id.ChannelId.{ChannelId}
use Rattle.terms.specs.declared.channel_id.ChannelId.TheVariants.{One, Two}
use Rattle.terms.specs.declared.report.Report.{Report}
use Rattle.terms.specs.declared.report.ReportKind.{ReportKind}
use Rattle.dacia.specs.Chip.{ChipAnswer, answer_of}
use Rattle.dacia.specs.Separation.{same}
use Rattle.link.specs.Past.{words_of}
use Rattle.board.specs.declared.record.Record.{Record}
use Rattle.board.specs.Record.{entry}
use Rattle.board.specs.Sweep.{Order, entries}
use Rattle.board.specs.Delivery.{words_in}

module _ (g : ReportKind → ℕ → List ℕ) (to : ChannelId) where
  pub words_in-++ : (rs qs : List Record) → words_in g to (rs ++ qs) ≡ words_in g to rs ++ words_in g to qs
  words_in-++ [] qs = refl
  words_in-++ (r ∷ rs) qs =
      let ws : List ℕ = cond (same to r.channel) (g r.kind r.word) [] in
      ap (λ z. ws ++ z) (words_in-++ rs qs) ∙ sym (append_assoc ws (words_in g to rs) (words_in g to qs))

  -- the words of the record of a report
  words_entry : (r : Option Report) (i : ℕ) (ch : ChannelId) → words_in g to (entry i ch r) ≡ cond (same to ch) (words_of g r) []
  words_entry None i ch = cond_both (same to ch) [] [] (λ ws. [] ≡ ws) (λ _. refl) (λ _. refl)
  words_entry (Some r) i ch = append-nil (cond (same to ch) (g r.kind r.word) [])

words_both : (g : ReportKind → ℕ → List ℕ) (to : ChannelId) (i : ℕ) (a : ChipAnswer) (b : Bool) →
    let one : List Record = entry i One a.one.report in let two : List Record = entry i Two a.two.report in
    words_in g to (cond b (two ++ one) (one ++ two)) ≡ words_of g (answer_of to a).report
words_both g One i a true = simp (words_in-++, words_entry) refl
words_both g One i a false = simp (words_in-++, words_entry, append-nil) refl
words_both g Two i a true = simp (words_in-++, words_entry, append-nil) refl
words_both g Two i a false = simp (words_in-++, words_entry) refl

-- one cycle more
pub words_more : (g : ReportKind → ℕ → List ℕ) (to : ChannelId) (ws : List ℕ) (rs : List Record) (o : Order) (i : ℕ) (a : ChipAnswer) →
    (ws ++ words_in g to rs) ++ words_of g (answer_of to a).report ≡ ws ++ words_in g to (rs ++ entries o i a)
words_more g to ws rs o i a = simp (append_assoc, words_in-++, words_both) refl
