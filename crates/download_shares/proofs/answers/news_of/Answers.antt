use Rattle.std.proofs.Common.{◌∙◌, inl, inr, refl, sym, subst}
use Rattle.std.proofs.lemmas.Bool.{false≢true}
use Rattle.download_shares.proofs.answers.news_of.Goals as goal
use Rattle.download_shares.specs.BeginningMoves.{IsNewsOf}
use Rattle.download_shares.specs.declared.beginnings.News.TheVariants as news
use Rattle.download_shares.specs.declared.holdings.Heard.{Heard}

pub returns-then-waits_at : goal.returns-then-waits_at
returns-then-waits_at c s same = subst (λ (h : Heard). IsNewsOf s h (news.Beginning c.in-Bytes.holding c.in-Bytes.position)) (sym c.in-Bytes.is) (inl (refl, (c.waits_at.ensures s same).0 c.if-waits_at.true))

pub returns-else-waits_at : goal.returns-else-waits_at
returns-else-waits_at c s same = subst (λ (h : Heard). IsNewsOf s h (news.Bytes c.in-Bytes.holding c.in-Bytes.position)) (sym c.in-Bytes.is) (inr (refl, λ w. false≢true (sym c.if-waits_at.false ∙ (c.waits_at.ensures s same).1 w)))
