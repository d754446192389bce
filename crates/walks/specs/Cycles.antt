-- Walks that lead from a node back to it.
use Rattle.std.specs.Prelude.{ℕ, ◌<◌, List, length}
use Rattle.walks.specs.Walks.{Walk}

-- some walk leads from a node back to it
pub record HasCycle (lists : List (List ℕ)) : Type 0 where
  pub node : ℕ
  pub back : Walk lists node node

-- no walk leads from a node back to it
pub record NoneBack (lists : List (List ℕ)) : Type 0 where
  pub none : (n : ℕ) → n < length lists → Walk lists n n → ⊥

-- the least node from which a walk leads back to it
pub record IsFirstBack (lists : List (List ℕ)) (n : ℕ) : Type 0 where
  pub is_node : n < length lists
  pub back : Walk lists n n
  pub none_before : (m : ℕ) → m < n → Walk lists m m → ⊥
