-- The larger width first, then the smaller cost, is no kind: its chain does not go into its join. Assumes nothing.
use Rattle.std.proofs.Common.{◌≡◌, ℕ, sym, ap, ◌∙◌, ap₂, arith}
use Rattle.kinds.specs.Widest.{preferred, chained, wide_route, narrow_route, shared_link, NoKind}
use Rattle.kinds.specs.declared.widest.WidestCheapest.{WidestCheapest}

pub no_kind : NoKind
no_kind o join chain laws =
    let left = chain (o.join wide_route narrow_route) shared_link ∙ ap (λ x. chained x shared_link) (join wide_route narrow_route) in
    let right = join (o.chain wide_route shared_link) (o.chain narrow_route shared_link) ∙ ap₂ preferred (chain wide_route shared_link) (chain narrow_route shared_link) in
    let e = sym left ∙ laws.join_chain wide_route narrow_route shared_link ∙ right in
    let f : ◌≡◌ {A = ℕ} 9 1 = ap (λ (x : WidestCheapest). x.cost.value) e in
    omega arith
