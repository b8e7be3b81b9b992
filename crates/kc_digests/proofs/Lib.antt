mod Feeding
mod LaneLemmas
mod Maj
mod Places
