use Rattle.adm_http.proofs.port.take_rest.Given as goal

-- how many bytes more are read
abbrev pub decreases-loop-left : goal.decreases-loop-left
decreases-loop-left g l = l.left
