-- A sweep on its way, and one cycle more. The code writes channel 1's record first.
use Rattle.std.proofs.Common.{◌≡◌, ℕ, suc, ◌+◌, ◌*◌, ◌<◌, ◌≤◌, false, List, [], ◌∷◌, ◌++◌, length, get_or, drop, set, Some, None, Option, sym, refl, ap, ◌∙◌, append_assoc, append-nil, arith, length-append}
use Rattle.std.proofs.lemmas.List.{set_at, drop_more, length_push}
use Rattle.terms.specs.declared.channel_id.ChannelId.{ChannelId}
use Rattle.terms.specs.declared.channel_id.ChannelId.TheVariants.{One, Two}
use Rattle.terms.specs.declared.report.Report.{Report}
use Rattle.dacia.specs.Chip.{ChipAnswer}
use Rattle.board.specs.declared.record.Record.{Record}
use Rattle.board.specs.Record.{entry, placed}
use Rattle.board.specs.Board.{State, cycle_answer, after_cycle}
use Rattle.board.specs.Sweep.{Order, cycles, entries, written, overwritten, Wrote, next_place, both_placed}

abbrev pub one_first : Order
one_first = λ i. false

-- after i cycles from the state s₀ and the list rs₀
pub record Sweeping (i : ℕ) (s₀ : State) (rs₀ : List Record) (s : State) (rs : List Record) (n : ℕ) : Type 0 where
  pub moved : s ≡ cycles i s₀
  pub filled : rs ≡ overwritten (written one_first i s₀) rs₀
  pub count : n ≡ length (written one_first i s₀)
  pub few : n ≤ 2 * i

entry_few : (i : ℕ) (ch : ChannelId) (r : Option Report) → length (entry i ch r) ≤ 1
entry_few i ch None = omega arith
entry_few i ch (Some r) = omega arith

-- one record more at the end of what was written
push_more : (ws rs : List Record) (e : Record) → length ws < length rs → set (overwritten ws rs) (length ws) e ≡ overwritten (ws ++ (e ∷ [])) rs
push_more ws rs e lt = simp (drop_more rs (length ws) e lt, set_at ws (get_or rs (length ws) e) (drop (length ws + 1) rs) e (length ws) refl, append_assoc, length_push) refl

placed_more : (ws rs : List Record) (i : ℕ) (ch : ChannelId) (r : Option Report) → length ws < length rs →
    placed (overwritten ws rs) (length ws) (entry i ch r) ≡ overwritten (ws ++ entry i ch r) rs
placed_more ws rs i ch None lt = ap (λ vs. overwritten vs rs) (sym (append-nil ws))
placed_more ws rs i ch (Some r) lt = push_more ws rs (record { cycle = i; channel = ch; kind = r.kind; word = r.word }) lt

-- a `put`: the list and the place after it
put_more : (ws rs₀ rs rs' : List Record) (n n' i : ℕ) (ch : ChannelId) (r : Option Report) →
    rs ≡ overwritten ws rs₀ → n ≡ length ws → length ws < length rs₀ → n' ≡ n + length (entry i ch r) → rs' ≡ placed rs n (entry i ch r) →
    (rs' ≡ overwritten (ws ++ entry i ch r) rs₀) × (n' ≡ length (ws ++ entry i ch r))
put_more ws rs₀ rs rs' n n' i ch r filled count room count' put = (
  put ∙ ap (λ z. placed z n (entry i ch r)) filled ∙ ap (λ m. placed (overwritten ws rs₀) m (entry i ch r)) count ∙ placed_more ws rs₀ i ch r room,
  simp length-append (omega arith),
)

pub sweeping_none : (s₀ : State) (rs₀ : List Record) → Sweeping 0 s₀ rs₀ s₀ rs₀ 0
unfolding cycles written
sweeping_none s₀ rs₀ = record { moved = refl; filled = refl; count = refl; few = omega arith }

-- c is the number of the next cycle, and m what the caller calls the cycles then
pub sweeping_more : {s₀ s s' : State} {rs₀ rs rs' : List Record} {n n' : ℕ} (i c m : ℕ) → c ≡ suc i → m ≡ suc i →
    Sweeping i s₀ rs₀ s rs n → 2 * i + 2 ≤ length rs₀ →
    s' ≡ after_cycle s → n' ≡ next_place n c (cycle_answer s) → rs' ≡ both_placed rs n c (cycle_answer s) → Sweeping m s₀ rs₀ s' rs' n'
unfolding cycles written
sweeping_more {s₀} {s} {s'} {rs₀} {rs} {rs'} {n} {n'} i c m ec em h room es en er =
    let ws : List Record = written one_first i s₀ in
    let a : ChipAnswer = cycle_answer s in
    let r₁ : Option Report = a.one.report in
    let r₂ : Option Report = a.two.report in
    let e₁ : List Record = entry c One r₁ in
    let e₂ : List Record = entry c Two r₂ in
    let few₁ : length e₁ ≤ 1 = entry_few c One r₁ in
    let few₂ : length e₂ ≤ 1 = entry_few c Two r₂ in
    let room₁ : length ws < length rs₀ = omega (arith, h.count, h.few) in
    let first = put_more ws rs₀ rs (placed rs n e₁) n (n + length e₁) c One r₁ h.filled h.count room₁ refl refl in
    let room₂ : length (ws ++ e₁) < length rs₀ = omega (arith, first.1, h.few) in
    let second = put_more (ws ++ e₁) rs₀ (placed rs n e₁) rs' (n + length e₁) n' c Two r₂ first.0 first.1 room₂ en er in
    let all : (ws ++ e₁) ++ e₂ ≡ ws ++ entries one_first (suc i) (cycle_answer (cycles i s₀)) =
    append_assoc ws e₁ e₂ ∙ (λ j. ws ++ entries one_first (ec j) (cycle_answer (h.moved j))) in
    rw em (record {
      moved = es ∙ ap after_cycle h.moved;
      filled = second.0 ∙ ap (λ vs. overwritten vs rs₀) all;
      count = second.1 ∙ ap length all;
      few = omega (arith, h.few);
    })

-- all k cycles
pub sweeping_all : {s₀ s : State} {rs₀ rs : List Record} {n : ℕ} (i k : ℕ) → k ≡ i → Sweeping i s₀ rs₀ s rs n → Wrote k s₀ rs₀ n rs
sweeping_all {s₀} {s} {rs₀} {rs} {n} i k e h = rw e (record { order = one_first; count = h.count; list = h.filled })
