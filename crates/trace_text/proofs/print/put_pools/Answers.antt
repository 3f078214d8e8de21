use Rattle.std.proofs.Common.{◌≡◌, ◌∙◌, sym, ap, ◌++◌, ℕ, List}
use Rattle.trace_text.specs.Print.{pool_line, pool_text, pools_text}
use Rattle.trace_text.proofs.Ranges.{one_more_text}
use Rattle.trace_text.proofs.print.put_pools.Goals as goal

pub loop-layout-preserved : goal.loop-layout-preserved
loop-layout-preserved c =
    let m = c.args.module.now in
    let pools = c.args.pools.now in
    let before = c.args.out.now.items ++ pools_text m c.loop-layout.layout pools in
    let line : pool_line m c.new-layout.result c.count.result ≡ pool_text m pools c.loop-layout.layout =
    ap (λ (count : ℕ). pool_line m c.new-layout.result count) c.count.ensures ∙ ap (pool_text m pools) c.new-layout.ensures in
    c.in_ok-put_pool.ensures
    ∙ ap (λ (text : List ℕ). text ++ pool_line m c.new-layout.result c.count.result) c.loop-layout.invariant
    ∙ ap (λ (text : List ℕ). before ++ text) line
    ∙ sym (one_more_text (pool_text m pools) c.args.out.now.items c.loop-layout.layout)
